-- Moving and testing: what each of these commands does once its step is paid.
use Rattle.std.specs.Prelude.{ℕ, pos, ◌+◌, Bool, true, false, not, ◌&&◌, List, length, nat_le, nat_eq}
use Rattle.std.specs.Prelude.{if◌then◌else◌, Option, Some, None, slice_get, slice_index_or, slice_set}
use Rattle.std.specs.List.{starts_with}
use Rattle.std.specs.Option.{option_map_or}
use Rattle.sbl_semantics.specs.Fitting.{read_as}
use Rattle.sbl_semantics.specs.declared.touch.Touch.TheVariants.{Tested}
use Rattle.sbl_semantics.specs.State.{State, Ending, Signals, ahead, move_cursor, room}
use Rattle.sbl_semantics.specs.Touches.{with_touch}
use Rattle.sbl_ast.specs.declared.mode.Mode.{Mode}
use Rattle.sbl_ast.specs.declared.mode.Mode.TheVariants.{Forward, Backward}

-- if the test is passed, moves over n characters, and otherwise signals f
abbrev pub move_if : Bool → ℕ → Mode → State → Ending
move_if passed n m s = if passed then Signals true (move_cursor m n s) else Signals false s

-- moves over a string that is a prefix of the text ahead
abbrev pub match : List ℕ → Mode → State → Ending
match string m s = move_if (starts_with nat_eq (ahead m s) (read_as m string)) (length string) m s

-- a grouping moves over one character of its class, `non` over one that is not in it
abbrev pub one_of : Bool → (ℕ → Bool) → Mode → State → Ending
one_of wanted class m s = move_if (option_map_or (λ c. if wanted then class c else not (class c)) (slice_get (ahead m s) 0) false) 1 m s

-- `hop` moves over this many characters, and `next` over one; a negative number signals f
abbrev pub hop : Option ℕ → Mode → State → Ending
hop distance m s = option_map_or (λ n. move_if (nat_le n (room m s)) n m s) distance (Signals false s)

-- `atmark` tests that the cursor is at an offset
abbrev pub at_mark : Option ℕ → State → Ending
at_mark place s = Signals (option_map_or (nat_eq s.cursor) place false) s

-- `tomark` moves the cursor to an offset between the cursor and the limit of the direction
abbrev pub to_mark : Option ℕ → Mode → State → Ending
to_mark None m s = Signals false s
to_mark (Some n) Forward s =
    if nat_le s.cursor n && nat_le (n + s.beyond) (length s.text) then Signals true (record s { cursor = n }) else Signals false s
to_mark (Some n) Backward s = if nat_le s.left n && nat_le n s.cursor then Signals true (record s { cursor = n }) else Signals false s

-- ---- names for parts of these definitions, which the interpreter and proofs use

abbrev pub touch_grouping : ℕ → State → State
touch_grouping g s = record s { touched = with_touch (Tested g) s.touched }

abbrev pub next : Mode → State → Ending
next m s = hop (Some 1) m s

abbrev pub at_limit : Mode → State → Ending
at_limit m s = Signals (nat_eq (room m s) 0) s

abbrev pub set_mark : ℕ → State → State
set_mark x s = record s { integers = slice_set s.integers x (pos s.cursor) }

abbrev pub set_boolean : ℕ → Bool → State → State
set_boolean x b s = record s { booleans = slice_set s.booleans x b }

abbrev pub test_boolean : ℕ → State → Ending
test_boolean x s = Signals (slice_index_or s.booleans x false) s
