use Rattle.std.proofs.Common.{[]}
use Rattle.sbl_explain.proofs.why.run_lines.Goals as goal

pub returns : goal.returns
returns c = c.into_bytes.ensures _ (c.in_ok-push_run-2.ensures [] c.in_ok-out.ensures.text)
