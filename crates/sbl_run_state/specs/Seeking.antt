-- How `goto` and `gopast` with a grouping end.
use Rattle.std.specs.Prelude.{ℕ, suc, ◌-◌, Bool, true, false, nat_le, nat_lt, if◌then◌else◌, List, Some}
use Rattle.std.specs.List.{position_or_len}
use Rattle.sbl_ast.specs.declared.mode.Mode.{Mode}
use Rattle.sbl_ast.specs.declared.mode.Mode.TheVariants.{Forward, Backward}
use Rattle.sbl_semantics.specs.declared.fault.RunFault.TheVariants.{Steps}
use Rattle.sbl_semantics.specs.State.{State, Ending, Signals, Stops, move_cursor}
use Rattle.sbl_semantics.specs.inside.MoveParts.{next_is}

-- Forward if true, else Backward
abbrev pub mode_if : Bool → Mode
mode_if forward = if forward then Forward else Backward

-- the number of characters before the first that is met; all of them if none is
abbrev pub count_before : Bool → (ℕ → Bool) → List ℕ → ℕ
count_before wanted class xs = position_or_len (λ c. next_is wanted class (Some c)) xs

-- The first test that signals t is after `before` characters, or none is if `room` characters are ahead and no more. Each
-- test uses a step.
abbrev pub seek_ending : Bool → Mode → ℕ → ℕ → ℕ → State → Ending
seek_ending past m steps before room s =
    if nat_le steps before then Stops Steps (record (move_cursor m steps s) { steps = 0 })
    else if nat_lt before room then Signals true (record (move_cursor m (if past then suc before else before) s) { steps = steps - suc before })
    else Signals false (record (move_cursor m before s) { steps = steps - suc before })
