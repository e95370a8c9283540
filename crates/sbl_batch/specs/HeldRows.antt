-- Rows that were made and are not written yet: what is done with their text before it is written.
use Rattle.std.specs.Prelude.{◌≡◌, ◌≤◌, ◌++◌, ℕ, true, false, List, [], ◌∷◌, Option, Result, Ok, Err, length, map}
use Rattle.std.specs.Str.{chars, is_utf8}
use Rattle.std.specs.Io.KnownBytes.{Appends}
use Rattle.sbl_ast.specs.Source.{Source}
use Rattle.sbl_batch.specs.Filter.{AllShort, Filters, IsLong, Stops, filter_output}
use Rattle.sbl_batch.specs.ToEnd.{FiltersToEnd, StopsAt, line_after, with_line}
use Rattle.sbl_bench.specs.declared.fault.EditFault.TheVariants as edit
use Rattle.sbl_input.specs.Loading.{AllText, TookWords, WordLines}
use Rattle.sbl_input.specs.declared.faults.LoadFault.{LoadFault}
use Rattle.sbl_input.specs.declared.faults.LoadFault.TheVariants.{Input, Open}
use Rattle.sbl_io.specs.HeldInput.{AllFit, Took, input_of}
use Rattle.sbl_io.specs.Records.{record_line}
use Rattle.sbl_io.specs.declared.lines.Lines.{Lines}
use Rattle.sbl_io.specs.declared.faults.ServeFault.TheVariants as fault
use Rattle.sbl_records.specs.RowRecords.{row_fields}
use Rattle.sbl_rows.specs.Rows.{row_of}
use Rattle.sbl_rows.specs.Setting.{under}
use Rattle.sbl_semantics.specs.Limit.{default_limit, max_word_length}

-- the line of a word's row under the default limit
abbrev pub word_line : Source → List ℕ → List ℕ
word_line s word = record_line (row_fields (row_of (under s default_limit) word))

-- a first part of a text was written, and the rest of it is left
abbrev pub WritesPart : Option (List ℕ) → Option (List ℕ) → List ℕ → List ℕ → Type 0
WritesPart held new_held text left = (part : List ℕ) × Appends held new_held part × (text ≡ part ++ left)

-- a line's row was appended to a text, if the line is not empty; or it is no word, or an allocation failed, and the text stays
abbrev pub PushesRow : Source → List ℕ → List ℕ → List ℕ → Result (Unit {0}) LoadFault → Type 0
PushesRow s line text new_text (Ok u) =
    (is_utf8 line ≡ true) × (length (chars line) ≤ max_word_length) × (new_text ≡ text ++ filter_output s (chars line ∷ []))
PushesRow s line text new_text (Err (Input fault.NotText)) = (is_utf8 line ≡ false) × (new_text ≡ text)
PushesRow s line text new_text (Err (Input fault.OutOfMemory)) = new_text ≡ text
PushesRow s line text new_text (Err (Open f)) = (f ≡ edit.WordTooLong) × IsLong line × (new_text ≡ text)
PushesRow s line text new_text (Err f) = ⊥

-- of the rows of the words in these lines a first part is written, and the rest is this text
abbrev pub HoldsRows : Source → Option (List ℕ) → Option (List ℕ) → List ℕ → List (List ℕ) → Type 0
HoldsRows s held new_held text lines = WritesPart held new_held (filter_output s (map chars lines)) text

-- lines of words were taken; of their rows a first part is written, and the rest is this text
pub record WordsHeld (s : Source) (old new held new_held : Option (List ℕ)) (text : List ℕ) (lines : List (List ℕ)) : Type 0 where
  pub words : WordLines lines × AllShort lines
  pub took : Took old new lines
  pub rows : HoldsRows s held new_held text lines

-- the same, if no line ends the words
pub record LinesHeld (s : Source) (old new held new_held : Option (List ℕ)) (text : List ℕ) (lines : List (List ℕ)) : Type 0 where
  pub words : AllFit lines × AllText lines × AllShort lines
  pub took : Took old new lines
  pub rows : HoldsRows s held new_held text lines

-- What is written of the rows of words up to a line `.` or the end of input, or up to a fault, and what is left to be written: nothing
-- if a read or a write failed.
abbrev pub ReadsWords
    : Source → Option (List ℕ) → Option (List ℕ) → Option (List ℕ) → Option (List ℕ) → List ℕ → Result (Unit {0}) LoadFault → Type 0
ReadsWords s old new held new_held text (Ok u) =
    (lines : List (List ℕ)) × TookWords old new lines × AllShort lines × HoldsRows s held new_held text lines
ReadsWords s old new held new_held text (Err (Input fault.Read)) = Filters s old new held new_held (Err (Input fault.Read)) × (text ≡ [])
ReadsWords s old new held new_held text (Err (Input fault.LineTooLong)) =
    Filters s old new held new_held (Err (Input fault.LineTooLong)) × (text ≡ [])
ReadsWords s old new held new_held text (Err (Input fault.Write)) = Filters s old new held new_held (Err (Input fault.Write)) × (text ≡ [])
ReadsWords s old new held new_held text (Err f) =
    (lines : List (List ℕ)) × (next : Option (List ℕ)) × WordsHeld s old next held new_held text lines × Stops next new f

-- the same of words up to the end of input, and the number of the next line
abbrev pub ReadsToEnd
    : Source → Option (List ℕ) → Option (List ℕ) → Option (List ℕ) → Option (List ℕ) → List ℕ → ℕ → Result (Unit {0}) LoadFault → Type 0
ReadsToEnd s old new held new_held text line (Ok u) = FiltersToEnd s old new held new_held (with_line line (Ok tt)) × (text ≡ [])
ReadsToEnd s old new held new_held text line (Err (Input fault.Read)) =
    FiltersToEnd s old new held new_held (with_line line (Err (Input fault.Read))) × (text ≡ [])
ReadsToEnd s old new held new_held text line (Err (Input fault.LineTooLong)) =
    FiltersToEnd s old new held new_held (with_line line (Err (Input fault.LineTooLong))) × (text ≡ [])
ReadsToEnd s old new held new_held text line (Err (Input fault.Write)) =
    FiltersToEnd s old new held new_held (with_line line (Err (Input fault.Write))) × (text ≡ [])
ReadsToEnd s old new held new_held text line (Err f) =
    (lines : List (List ℕ)) × (next : Option (List ℕ)) × LinesHeld s old next held new_held text lines × StopsAt next new f
    × (line ≡ line_after lines)

-- both over lines and a writer
abbrev pub ReadsWordsOf
    : {R W : Type 0} → (R → Option (List ℕ)) → (W → Option (List ℕ)) → Source → Lines R → Lines R → W → W → List ℕ
    → Result (Unit {0}) LoadFault → Type 0
ReadsWordsOf left held s lines new_lines writer new_writer text result =
    ReadsWords s (input_of left lines) (input_of left new_lines) (held writer) (held new_writer) text result

abbrev pub ReadsToEndOf
    : {R W : Type 0} → (R → Option (List ℕ)) → (W → Option (List ℕ)) → Source → Lines R → Lines R → W → W → List ℕ → ℕ
    → Result (Unit {0}) LoadFault → Type 0
ReadsToEndOf left held s lines new_lines writer new_writer text line result =
    ReadsToEnd s (input_of left lines) (input_of left new_lines) (held writer) (held new_writer) text line result
