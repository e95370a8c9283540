-- What the search of an among touches, and what it chooses.
use Rattle.std.specs.Prelude.{ℕ, Option, Some, None, slice_index_or, slice_set}
use Rattle.sbl_semantics.specs.Events.{Searches, Finds}
use Rattle.sbl_semantics.specs.declared.touch.Touch.TheVariants.{Searched}
use Rattle.sbl_semantics.specs.State.{State, note_event}
use Rattle.sbl_semantics.specs.Touches.{with_touch}
use Rattle.sbl_ast.specs.declared.mode.Mode.{Mode}

-- begins a search of the among with this number in the current routine, which touches it
abbrev pub touch_among : ℕ → Mode → State → State
touch_among k m s = note_event (Searches s.routine k m s.cursor) (record s { touched = with_touch (Searched s.routine k) s.touched })

-- ends that search with the length and the group of the string that it takes, or with neither
abbrev pub conclude_search : ℕ → Option ℕ → Option ℕ → State → State
conclude_search k n g s = note_event (Finds k n) (record s { choices = slice_set s.choices k g })

-- ---- names for parts of these definitions, which the interpreter and proofs use

abbrev pub take_string : ℕ → ℕ → ℕ → State → State
take_string k n g s = conclude_search k (Some n) (Some g) s

abbrev pub take_none : ℕ → State → State
take_none k s = conclude_search k None None s

abbrev pub choice : ℕ → State → Option ℕ
choice k s = slice_index_or s.choices k None
