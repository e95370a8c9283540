use Rattle.std.proofs.Common.{arith}
use Rattle.sbl_bench.proofs.fresh_run.run_or_break.Goals as goal

pub returns-then-is_wanted-clause-cut : goal.returns-then-is_wanted-clause-cut
returns-then-is_wanted-clause-cut g c = (0, omega arith, omega arith)

pub returns-then-is_wanted-clause-told : goal.returns-then-is_wanted-clause-told
returns-then-is_wanted-clause-told g c = c.is_wanted.ensures.yes c.if-is_wanted.true

pub returns-in-Ok-clause-untold : goal.returns-in-Ok-clause-untold
returns-in-Ok-clause-untold g c = c.is_wanted.ensures.no c.if-is_wanted.false

pub returns-in-Err-clause-told : goal.returns-in-Err-clause-told
returns-in-Err-clause-told g c = c.is_wanted.ensures.no c.if-is_wanted.false
