use Rattle.std.proofs.Common.{◌≡◌, ◌++◌, drop, map}
use Rattle.sbl_explain.specs.TakeNumbers.{KeepsNumbers}
use Rattle.sbl_uses.specs.UsableViews.{view_usables}
use Rattle.sbl_explain.specs.UsableViews.{AreDefined, number_rows, row_for}
use Rattle.sbl_explain.proofs.counts.counts_of.Given as goal

abbrev pub invariant-loop-usable : goal.invariant-loop-usable
invariant-loop-usable l = AreDefined l.bench (view_usables l.usables) → KeepsNumbers l.bench l.taken → number_rows l.counts.items ++ map (row_for l.bench) (view_usables (drop l.usable-index l.usables)) ≡ map (row_for l.bench) (view_usables l.usables)
