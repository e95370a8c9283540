-- Values by number that are missing unless they were set in the current round.
use Rattle.std.specs.Prelude.{ℕ, zero, suc, ◌≤◌, List, [], ◌∷◌, nat_eq, if◌then◌else◌, Option, Some, None}
use Rattle.std.specs.declared.alloc.Global.{Global}
use Rattle.std.specs.declared.vec.Vec.{Vec}
use Rattle.sbl_run_state.specs.declared.slots.Slot.{Slot}

-- the value of a slot, if it was set in this round
abbrev pub slot_value : {T : Type 0} → ℕ → Slot T → Option T
slot_value round slot = if nat_eq slot.round round then Some slot.value else None

-- n values: those of the slots, and none past their end
abbrev pub slot_values : {T : Type 0} → ℕ → ℕ → List (Slot T) → List (Option T)
slot_values round zero slots = []
slot_values round (suc n) [] = None ∷ slot_values round n []
slot_values round (suc n) (slot ∷ slots) = slot_value round slot ∷ slot_values round n slots

-- no slot was set after this round
abbrev pub AreUpTo : {T : Type 0} → ℕ → List (Slot T) → Type 0
AreUpTo round [] = Unit {0}
AreUpTo round (slot ∷ slots) = (slot.round ≤ round) × AreUpTo round slots

-- the value of a variable that is missing until it is set
abbrev pub value_or : {T : Type 0} → T → Option T → T
value_or first None = first
value_or first (Some value) = value

-- the characters of a string variable, which is empty until it is set
abbrev pub text_or_empty : Option (Vec ℕ Global) → List ℕ
text_or_empty None = []
text_or_empty (Some text) = text.items
