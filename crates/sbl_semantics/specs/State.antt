-- The state of a run, and how a command ends.
use Rattle.std.specs.Prelude.{ℕ, ℤ, zero, suc, ◌+◌, ◌-◌, Bool, true, false, List, [], ◌∷◌, ◌++◌}
use Rattle.std.specs.Prelude.{length, nat_lt, nat_le, if◌then◌else◌, Option, option_map}
use Rattle.sbl_semantics.specs.declared.fault.RunFault.{RunFault}
use Rattle.sbl_semantics.specs.declared.fault.RunFault.TheVariants.{Steps, Cursor}
use Rattle.sbl_semantics.specs.declared.cursor.SavedCursor.{SavedCursor}
use Rattle.sbl_semantics.specs.declared.touch.Touch.{Touch}
use Rattle.sbl_semantics.specs.Events.{Event'}
use Rattle.sbl_semantics.specs.Fitting.{ahead_at}
use Rattle.sbl_ast.specs.declared.mode.Mode.{Mode}
use Rattle.sbl_ast.specs.declared.mode.Mode.TheVariants.{Forward, Backward}

-- the state of a run
pub record State : Type 0 where
  pub text : List ℕ
  pub cursor : ℕ
  -- the left limit, and the number of characters beyond the limit: no splice changes either
  pub left : ℕ
  pub beyond : ℕ
  -- the slice lies between these two offsets
  pub bra : ℕ
  pub ket : ℕ
  -- the variables, by number
  pub integers : List ℤ
  pub booleans : List Bool
  pub strings : List (List ℕ)
  -- for each among of the current routine, the group of the string that its last search took
  pub choices : List (Option ℕ)
  -- the number of the current routine
  pub routine : ℕ
  -- what was touched, in the order of first touch
  pub touched : List Touch
  -- the events so far, if the run records them
  pub events : Option (List Event')
  -- the steps that are left
  pub steps : ℕ

-- the maximum number of characters in the text of a run
abbrev pub max_text_length : ℕ
max_text_length = 1024

-- records an event, if the run records events
abbrev pub note_event : Event' → State → State
note_event x s = record s { events = option_map (λ xs. xs ++ (x ∷ [])) s.events }

-- how a command ends: with its signal and a state, or the run is refused in a state
pub data Ending : Type 0 where
  Signals : Bool → State → Ending
  Stops : RunFault → State → Ending

-- what a command does, in a mode, from a state
abbrev pub Doing : Type 0
Doing = Mode → State → Ending

-- continues after t, or after f
abbrev pub after : Ending → (State → Ending) → (State → Ending) → Ending
after (Signals true s) on_t on_f = on_t s
after (Signals false s) on_t on_f = on_f s
after (Stops fault s) on_t on_f = Stops fault s

-- continues from a state, unless the run is refused
abbrev pub then_on : Ending → (State → Ending) → Ending
then_on e go = after e go (Signals false)

-- uses one step, if this many are left
abbrev pub pay : ℕ → State → Ending
pay zero s = Stops Steps s
pay (suc n) s = Signals true (record s { steps = n })

-- the end of the part ahead; forwards it is the limit, the end of the text that may be read
abbrev pub bound_of : Mode → State → ℕ
bound_of Forward s = length s.text - s.beyond
bound_of Backward s = s.left

-- the text that the mode reads next: forwards from the cursor to the limit, backwards from the cursor leftwards to the
-- left limit; empty if they have crossed
abbrev pub ahead : Mode → State → List ℕ
ahead m s = ahead_at m s.text s.cursor (bound_of m s)

-- the number of characters ahead
abbrev pub room : Mode → State → ℕ
room Forward s = bound_of Forward s - s.cursor
room Backward s = s.cursor - s.left

-- the cursor moved by n characters
abbrev pub move_cursor : Mode → ℕ → State → State
move_cursor Forward n s = record s { cursor = s.cursor + n }
move_cursor Backward n s = record s { cursor = s.cursor - n }

-- the cursor at an offset; outside the text the run is refused
abbrev pub at_place : ℕ → State → Ending
at_place n s = if nat_le n (length s.text) then Signals true (record s { cursor = n }) else Stops Cursor s

-- the same for the offset b to the left of a
abbrev pub at_difference : ℕ → ℕ → State → Ending
at_difference a b s = if nat_lt a b then Stops Cursor s else at_place (a - b) s

-- the cursor at the limit of the direction
abbrev pub to_limit : Mode → State → Ending
to_limit Forward s = at_difference (length s.text) s.beyond s
to_limit Backward s = at_place s.left s

-- what is needed to put the cursor back
abbrev pub saved_cursor : State → SavedCursor
saved_cursor s = record { cursor = s.cursor; beyond = s.beyond; length = length s.text }

-- The cursor moved back to where it was saved: it keeps its distance from the left end forwards, and from the limit
-- backwards. Nothing else is undone.
abbrev pub put_back : Mode → SavedCursor → State → Ending
put_back Forward from s = at_place from.cursor s
put_back Backward from s = at_difference (length s.text + from.beyond + from.cursor) (s.beyond + from.length) s

-- the cursor moved over this many characters, which need not be ahead
abbrev pub step_over : Mode → ℕ → State → Ending
step_over Forward n s = at_place (s.cursor + n) s
step_over Backward n s = at_difference s.cursor n s

-- the cursor just after a string of this many characters that begins at a saved cursor
abbrev pub place_after : Mode → SavedCursor → ℕ → State → Ending
place_after m from n s = then_on (put_back m from s) (step_over m n)

-- ---- names for parts of these definitions, which the interpreter and proofs use

abbrev pub limit_of : State → ℕ
limit_of s = bound_of Forward s
