use Rattle.std.proofs.Common.{◌≡◌, ℕ, suc, ◌-◌, length}
use Rattle.sbl_run_state.specs.Marks.{mark_at}
use Rattle.sbl_run_state.proofs.touches.grow.Given as goal

-- no mark changes
abbrev pub invariant-loop-marks : goal.invariant-loop-marks
invariant-loop-marks l = (j : ℕ) → mark_at l.marks.items j ≡ mark_at l.initial.marks.items j

abbrev pub decreases-loop-marks : goal.decreases-loop-marks
decreases-loop-marks l = suc l.i - length l.marks.items
