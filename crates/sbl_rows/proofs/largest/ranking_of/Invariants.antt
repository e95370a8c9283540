use Rattle.std.proofs.Common.{vec_len}
use Rattle.sbl_rows.proofs.RankFacts.{IsRanking}
use Rattle.sbl_rows.proofs.largest.ranking_of.Given as goal

abbrev pub invariant-loop-class : goal.invariant-loop-class
invariant-loop-class l = IsRanking l.ranking.entries l.classes.items l.initial.classes.items

abbrev pub decreases-loop-class : goal.decreases-loop-class
decreases-loop-class l = vec_len l.classes
