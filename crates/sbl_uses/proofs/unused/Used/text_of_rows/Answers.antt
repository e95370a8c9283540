use Rattle.std.proofs.Common.{[]}
use Rattle.sbl_uses.proofs.unused.Used.text_of_rows.Goals as goal

pub returns : goal.returns
returns c = λ s words is. c.into_bytes.ensures _ (c.in_ok-push_rows-2.ensures s words is [] c.in_ok-out.ensures.text)
