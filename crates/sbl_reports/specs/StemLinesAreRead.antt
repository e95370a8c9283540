-- What is written of the stems of rows is read as these stems.
use Rattle.std.specs.Prelude.{◌≡◌, ℕ, Bool, true, List, [], length, map, Some}
use Rattle.std.specs.List.{list_all}
use Rattle.std.specs.Str.{all_scalars}
use Rattle.sbl_io.specs.LinesOf.{lines_of}
use Rattle.sbl_rows.specs.Changes.{changes_of}
use Rattle.sbl_rows.specs.ChangesAreSound.{HasOneRowEach}
use Rattle.sbl_rows.specs.Rows.{Row}
use Rattle.sbl_rows.specs.StemRows.{rows_with}
use Rattle.sbl_semantics.specs.Outcome.{Outcome', Stem, Refused}
use Rattle.sbl_reports.specs.StemLines.{are_text, stem_lines, stems_in}

-- whether each number of a stem is the code of a character
abbrev pub are_characters : Outcome' → Bool
are_characters (Stem stem) = all_scalars stem
are_characters (Refused f) = true

abbrev pub HaveCharacters : List Row → Type 0
HaveCharacters rows = list_all (λ r. are_characters r.outcome) rows ≡ true

-- the words of rows with the stems in a text
abbrev pub rows_read : List Row → List ℕ → List Row
rows_read rows text = rows_with (map (λ r. r.word) rows) (stems_in text)

-- The text of the stems of rows has a line for each row, each line is UTF-8, and the words with the stems in it are the rows.
abbrev pub WrittenStemsAreRead : Type 0
WrittenStemsAreRead =
    (rows : List Row) (text : List ℕ) → HaveCharacters rows → stem_lines rows ≡ Some text
    → (length (lines_of text) ≡ length rows) × (are_text (lines_of text) ≡ true) × (rows_read rows text ≡ rows)

-- If no two rows have the same word, nothing has changed from the words with the stems in it to the rows.
abbrev pub WrittenStemsShowNoChange : Type 0
WrittenStemsShowNoChange =
    (rows : List Row) (text : List ℕ) → HaveCharacters rows → HasOneRowEach rows → stem_lines rows ≡ Some text
    → changes_of (rows_read rows text) rows ≡ []
