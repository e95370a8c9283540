use Rattle.std.proofs.Common.{drop, List}
use Rattle.sbl_last_runs.specs.KeptEntries.{KeptWord}
use Rattle.sbl_last_runs.specs.Last.{Follows}
use Rattle.sbl_last_runs.specs.Pairs.{ArePaired}
use Rattle.sbl_last_runs.proofs.Following.{AreFollowedSoFar}
use Rattle.sbl_last_runs.proofs.pairs.follow_each.Given as goal

abbrev pub invariant-loop-change : goal.invariant-loop-change
invariant-loop-change l = (old : List KeptWord) → Follows old l.last l.traces.entries → ArePaired old l.fn.pairs → AreFollowedSoFar old l.traces.entries (drop l.change-index l.last) l.pairs
