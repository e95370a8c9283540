-- Where the stems of some words differ from those that are expected.
use Rattle.std.specs.Prelude.{◌≡◌, ℕ, ◌+◌, Bool, false, List, [], ◌∷◌, ◌++◌, Option, Some, None, Result, Ok, Err}
use Rattle.std.specs.Prelude.{codes, decimal, length, take, nat_lt, if◌then◌else◌}
use Rattle.std.specs.Option.{option_or}
use Rattle.std.specs.Str.{bytes_eq, chars, encode_utf8_all}
use Rattle.std.specs.Io.KnownBytes.{Appends}
use Rattle.sbl_ast.specs.Source.{Source}
use Rattle.sbl_semantics.specs.Names.{name_of}
use Rattle.sbl_semantics.specs.Outcome as machine
use Rattle.sbl_semantics.specs.Limit.{default_limit, max_word_length}
use Rattle.sbl_semantics.specs.Outcome.{Outcome', run_of}
use Rattle.sbl_input.specs.FileWords.{line_fault}
use Rattle.sbl_io.specs.LinesOf.{lines_of}
use Rattle.sbl_io.specs.Records.{records_text}
use Rattle.sbl_io.specs.declared.faults.ServeFault.{ServeFault}
use Rattle.sbl_io.specs.declared.faults.ServeFault.TheVariants as fault

-- ---- one word

-- What a script makes of a word: its stem as UTF-8, or the name of a refusal.
pub data Got : Type 0 where
  Stem : List ℕ → Got
  Refused : List ℕ → Got

abbrev pub of_outcome : Outcome' → Got
of_outcome (machine.Stem text) = Stem (encode_utf8_all text)
of_outcome (machine.Refused f) = Refused (name_of f)

-- a word of more characters than a run takes is refused without one
abbrev pub made_of : Source → List ℕ → Got
made_of script word =
    if nat_lt max_word_length (length word) then Refused (codes "WordTooLong")
    else of_outcome (run_of script word default_limit)

-- as a row shows it
abbrev pub got_text : Got → List ℕ
got_text (Stem text) = text
got_text (Refused name) = codes "refused " ++ name

-- the stem is the one that is expected; a refusal never is
abbrev pub is_expected : List ℕ → Got → Bool
is_expected expected (Stem text) = bytes_eq text expected
is_expected expected (Refused name) = false

-- the fields of a difference's row: the number of the line, its word, the expected stem, and what came in its place
abbrev pub fields_of : ℕ → List ℕ → List ℕ → Got → List (List ℕ)
fields_of n word expected g = decimal n ∷ word ∷ expected ∷ got_text g ∷ []

-- a row where it differs, and else none
abbrev pub row_of : ℕ → List ℕ → List ℕ → Got → List (List (List ℕ))
row_of n word expected g = if is_expected expected g then [] else fields_of n word expected g ∷ []

unfoldable pub difference : Source → ℕ → List ℕ → List ℕ → List (List (List ℕ))
difference script n word expected = row_of n word expected (made_of script (chars word))

-- ---- two lists

-- of two lines with one number the word's comes first
abbrev pub pair_fault : List ℕ → List ℕ → Option ServeFault
pair_fault word expected = option_or (line_fault word) (line_fault expected)

-- The fault with which the comparison of two lists ends, if any: that of the first line which has one, as far as both lists
-- go, and else that one of them is longer.
unfoldable pub ending : List (List ℕ) → List (List ℕ) → Option ServeFault
ending [] [] = None
ending [] (e ∷ es) = Some fault.LengthsDiffer
ending (w ∷ ws) [] = Some fault.LengthsDiffer
ending (w ∷ ws) (e ∷ es) = option_or (pair_fault w e) (ending ws es)

abbrev pub if_none : {F A : Type 0} → Option F → List A → List A
if_none None xs = xs
if_none (Some f) xs = []

-- The rows of the differences of two lists whose first lines have this number, as far as both go and no line has a fault.
unfoldable pub differences : Source → ℕ → List (List ℕ) → List (List ℕ) → List (List (List ℕ))
differences script n [] es = []
differences script n (w ∷ ws) [] = []
differences script n (w ∷ ws) (e ∷ es) = if_none (pair_fault w e) (difference script n w e ++ differences script (n + 1) ws es)

-- lines are counted from 1
abbrev pub all_differences : Source → List ℕ → List ℕ → List (List (List ℕ))
all_differences script words expected = differences script 1 (lines_of words) (lines_of expected)

-- What a check writes and answers: all rows and their number; all rows up to the line at which it ends, and the fault; or, where
-- the writer failed or memory was refused, a prefix of the rows.
abbrev pub IsChecked : Source → List ℕ → List ℕ → Option (List ℕ) → Option (List ℕ) → Result ℕ ServeFault → Type 0
IsChecked script words expected held new_held (Ok n) =
    (ending (lines_of words) (lines_of expected) ≡ None) × (n ≡ length (all_differences script words expected))
    × Appends held new_held (records_text (all_differences script words expected))
IsChecked script words expected held new_held (Err fault.Write) =
    (n : ℕ) × Appends held new_held (take n (records_text (all_differences script words expected)))
IsChecked script words expected held new_held (Err fault.OutOfMemory) =
    (n : ℕ) × Appends held new_held (take n (records_text (all_differences script words expected)))
IsChecked script words expected held new_held (Err f) =
    (ending (lines_of words) (lines_of expected) ≡ Some f) × Appends held new_held (records_text (all_differences script words expected))
