use Rattle.std.proofs.Common.{subst}
use Rattle.sbl_last_runs.specs.Pairs.{IsIndexed}
use Rattle.sbl_last_runs.proofs.pairs.follow.Goals as goal

pub returns-in-Ok : goal.returns-in-Ok
returns-in-Ok c = λ old f indexed. c.in-Ok.ensures old f (subst (IsIndexed old) c.in-Some.is indexed)
