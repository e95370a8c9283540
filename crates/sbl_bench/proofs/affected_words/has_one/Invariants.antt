use Rattle.std.proofs.Common.{◌≡◌, drop}
use Rattle.sbl_bench.specs.inside.AffectedWords.{touches_one}
use Rattle.sbl_bench.proofs.affected_words.has_one.Given as goal

-- none so far
abbrev pub invariant-loop-touch : goal.invariant-loop-touch
invariant-loop-touch l = touches_one l.marks (drop l.touch-index l.touches) ≡ touches_one l.marks l.touches
