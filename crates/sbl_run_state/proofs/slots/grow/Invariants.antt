use Rattle.std.proofs.Common.{◌≡◌, ℕ, suc, ◌-◌, ◌<◌, length}
use Rattle.sbl_run_state.specs.Slots.{slot_values, AreUpTo}
use Rattle.sbl_run_state.proofs.slots.grow.Given as goal

-- no value is there that was not, and no slot is of a later round
abbrev pub invariant-loop-alloc : goal.invariant-loop-alloc
invariant-loop-alloc g l =
    ((round count : ℕ) → 0 < round → slot_values round count l.slots.items ≡ slot_values round count l.initial.slots.items) × ((round : ℕ) → AreUpTo round l.initial.slots.items → AreUpTo round l.slots.items)

abbrev pub decreases-loop-alloc : goal.decreases-loop-alloc
decreases-loop-alloc g l = suc l.number - length l.slots.items
