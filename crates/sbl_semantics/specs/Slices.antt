-- The slice, replacement and insertion: what each of these commands does once its step is paid.
use Rattle.std.specs.Prelude.{ℕ, ◌+◌, ◌-◌, Bool, true, false, not, ◌&&◌, List, length, take, drop, nat_lt, nat_le, if◌then◌else◌, slice_set}
use Rattle.std.specs.List.{splice}
use Rattle.sbl_semantics.specs.Events.{Puts}
use Rattle.sbl_semantics.specs.declared.fault.RunFault.TheVariants.{Slice, Cursor, TooLong}
use Rattle.sbl_semantics.specs.State.{State, Ending, Signals, Stops, note_event, max_text_length}
use Rattle.sbl_ast.specs.declared.mode.Mode.{Mode}
use Rattle.sbl_ast.specs.declared.mode.Mode.TheVariants.{Forward, Backward}

abbrev pub is_forward : Mode → Bool
is_forward Forward = true
is_forward Backward = false

-- the left end of the slice set to the cursor, or its right end
abbrev pub set_end : Bool → State → State
set_end true s = record s { bra = s.cursor }
set_end false s = record s { ket = s.cursor }

-- ends in this way if bra..ket is a slice, that is, bra <= ket <= limit; otherwise stops as Slice
abbrev pub on_slice : State → Ending → Ending
on_slice s e = if nat_le s.bra s.ket && nat_le (s.ket + s.beyond) (length s.text) then e else Stops Slice s

-- where a cursor goes if bra..ket is replaced by n characters
abbrev pub cursor_after_splice : ℕ → ℕ → ℕ → ℕ → ℕ
cursor_after_splice n bra ket cursor = if nat_le ket cursor then cursor + n - (ket - bra) else (if nat_lt bra cursor then bra else cursor)

-- the slice replaced by a string
abbrev pub replace_slice : List ℕ → State → State
replace_slice string s =
    note_event (Puts s.bra s.ket string) (record s {
      text = splice s.text s.bra s.ket string;
      cursor = cursor_after_splice (length string) s.bra s.ket s.cursor;
      ket = s.bra + length string;
    })

-- `<- S`; `delete` is `<- ''`
abbrev pub replace : List ℕ → State → Ending
replace string s = on_slice s
    (if nat_le (length s.text + length string - (s.ket - s.bra)) max_text_length then Signals true (replace_slice string s) else Stops TooLong s)

-- `-> s` copies the slice to a string variable
abbrev pub keep : ℕ → State → Ending
keep x s = on_slice s (Signals true (record s { strings = slice_set s.strings x (take (s.ket - s.bra) (drop s.bra s.text)) }))

-- where an end of the slice goes if n characters are inserted at an offset
abbrev pub end_after_insertion : ℕ → ℕ → ℕ → ℕ
end_after_insertion n at place = if nat_le at place then place + n else place

-- a string inserted at the cursor, which ends to the right of it or to the left of it
abbrev pub insert_string : Bool → List ℕ → State → State
insert_string right string s =
    note_event (Puts s.cursor s.cursor string) (record s {
      text = splice s.text s.cursor s.cursor string;
      cursor = if right then s.cursor + length string else s.cursor;
      bra = end_after_insertion (length string) s.cursor s.bra;
      ket = end_after_insertion (length string) s.cursor s.ket;
    })

-- the same, unless the cursor is beyond the limit or the text becomes too long
abbrev pub put_in : Bool → List ℕ → State → Ending
put_in right string s =
    if nat_le (s.cursor + s.beyond) (length s.text)
    then (if nat_le (length s.text + length string) max_text_length then Signals true (insert_string right string s) else Stops TooLong s)
    else Stops Cursor s

-- ---- names for parts of these definitions, which the interpreter and proofs use

-- bra <= ket <= limit
abbrev pub is_slice : State → Bool
is_slice s = nat_le s.bra s.ket && nat_le (s.ket + s.beyond) (length s.text)

abbrev pub left_bracket : Mode → State → State
left_bracket m s = set_end (is_forward m) s

abbrev pub right_bracket : Mode → State → State
right_bracket m s = set_end (not (is_forward m)) s

abbrev pub insert : List ℕ → Mode → State → Ending
insert string m s = put_in (is_forward m) string s

abbrev pub attach : List ℕ → Mode → State → Ending
attach string m s = put_in (not (is_forward m)) string s
