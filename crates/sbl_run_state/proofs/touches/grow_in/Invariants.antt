use Rattle.std.proofs.Common.{◌≡◌, ℕ, suc, ◌-◌, length, map}
use Rattle.sbl_run_state.specs.Marks.{mark_in}
use Rattle.sbl_run_state.proofs.touches.grow_in.Given as goal

-- no mark changes
abbrev pub invariant-loop-alloc : goal.invariant-loop-alloc
invariant-loop-alloc l = (j k : ℕ) → mark_in (map (λ row. row.items) l.rows.items) j k ≡ mark_in (map (λ row. row.items) l.initial.rows.items) j k

abbrev pub decreases-loop-alloc : goal.decreases-loop-alloc
decreases-loop-alloc l = suc l.i - length l.rows.items
