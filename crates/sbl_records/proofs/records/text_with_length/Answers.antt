use Rattle.std.proofs.Common.{[]}
use Rattle.sbl_records.proofs.records.text_with_length.Goals as goal

pub returns : goal.returns
returns g c = c.into_bytes.ensures _ (c.in_ok-push_records.ensures [] c.in_ok-out.ensures.text)
