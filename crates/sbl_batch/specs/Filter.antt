-- What a filter of a script writes for words: the rows that `stem` writes for them, one after another.
use Rattle.std.specs.Prelude.{◌≡◌, ◌≢◌, ◌⊎◌, ◌<◌, ◌≤◌, ℕ, Bool, true, false, List, [], ◌∷◌, ◌++◌, Option, Some, Result, Ok, Err, ⊤, length, map, take}
use Rattle.std.specs.List.{filter}
use Rattle.std.specs.Str.{chars, is_utf8}
use Rattle.std.specs.Io.KnownBytes.{Appends, Keeps}
use Rattle.sbl_rows.specs.Rows.{rows_of}
use Rattle.sbl_rows.specs.Setting.{under}
use Rattle.sbl_bench.specs.declared.fault.EditFault.TheVariants as edit
use Rattle.sbl_io.specs.Faults.{serve_fault_of}
use Rattle.sbl_io.specs.HeldInput.{BeginsLong, BreaksOff, Took}
use Rattle.sbl_io.specs.LinesOf.{max_line}
use Rattle.sbl_io.specs.declared.faults.LineFault.{LineFault}
use Rattle.sbl_io.specs.declared.faults.ServeFault.TheVariants as fault
use Rattle.sbl_semantics.specs.Limit.{default_limit, max_word_length}
use Rattle.sbl_io.specs.Records.{records_text}
use Rattle.sbl_ast.specs.Source.{Source}
use Rattle.sbl_reports.specs.Block.{point}
use Rattle.sbl_input.specs.Loading.{IsInput, ReadsScript, TookFault, TookSource, TookWords, WordLines}
use Rattle.sbl_records.specs.RowRecords.{row_fields}
use Rattle.sbl_input.specs.declared.faults.LoadFault.{LoadFault}
use Rattle.sbl_input.specs.declared.faults.LoadFault.TheVariants.{Input, Script, Open}

-- ---- the rows

abbrev pub is_filled : List ℕ → Bool
is_filled [] = false
is_filled word = true

-- the text of the rows of all words that are not empty, also of repeats, under the limit of 100,000 steps
unfoldable pub filter_output : Source → List (List ℕ) → List ℕ
filter_output s words = records_text (map row_fields (rows_of (under s default_limit) (filter is_filled words)))

-- ---- the lines of words

-- no word has too many characters
abbrev pub AllShort : List (List ℕ) → Type 0
AllShort [] = ⊤
AllShort (line ∷ lines) = (length (chars line) ≤ max_word_length) × AllShort lines

-- a line is text with too many characters for a word
abbrev pub IsLong : List ℕ → Type 0
IsLong line = (is_utf8 line ≡ true) × (max_word_length < length (chars line))

-- Lines of words were taken, and the rows of their words are written.
pub record Rows (s : Source) (old new held new_held : Option (List ℕ)) (lines : List (List ℕ)) : Type 0 where
  pub words : WordLines lines × AllShort lines
  pub took : Took old new lines
  pub text : Appends held new_held (filter_output s (map chars lines))

-- the next line was taken, and it is not `.`
abbrev pub TookLine : Option (List ℕ) → Option (List ℕ) → List ℕ → Type 0
TookLine old new line = (line ≢ point) × (length line ≤ max_line) × Took old new (line ∷ [])

-- There is no more row: the reader stopped in the next line, that line is too long, or it is no word; or an allocation failed in
-- it or before it.
abbrev pub Stops : Option (List ℕ) → Option (List ℕ) → LoadFault → Type 0
Stops old new (Input fault.Read) = (part : List ℕ) × BreaksOff old new part
Stops old new (Input fault.LineTooLong) = BeginsLong old
Stops old new (Input fault.NotText) = (line : List ℕ) × TookLine old new line × (is_utf8 line ≡ false)
Stops old new (Input fault.OutOfMemory) = Took old new [] ⊎ ((line : List ℕ) × TookLine old new line)
Stops old new (Open f) = (f ≡ edit.WordTooLong) × (line : List ℕ) × TookLine old new line × IsLong line
Stops old new f = ⊥

-- these lines were taken, and at most one more
abbrev pub TookAtLeast : Option (List ℕ) → Option (List ℕ) → List (List ℕ) → Type 0
TookAtLeast old new lines = Took old new lines ⊎ ((line : List ℕ) × Took old new (lines ++ line ∷ []))

-- a prefix of the rows of the words in these lines is written
abbrev pub AppendsPart : Source → Option (List ℕ) → Option (List ℕ) → List (List ℕ) → Type 0
AppendsPart s held new_held lines = (n : ℕ) × Appends held new_held (take n (filter_output s (map chars lines)))

-- What a filter writes for words up to a line `.` or the end of input: all rows; or those of the lines before a fault. After a
-- failed write it is a prefix of the rows of the lines that were taken.
abbrev pub Filters : Source → Option (List ℕ) → Option (List ℕ) → Option (List ℕ) → Option (List ℕ) → Result (Unit {0}) LoadFault → Type 0
Filters s old new held new_held (Ok u) =
    (lines : List (List ℕ)) × TookWords old new lines × AllShort lines × Appends held new_held (filter_output s (map chars lines))
Filters s old new held new_held (Err (Input fault.Write)) =
    (lines : List (List ℕ)) × WordLines lines × AllShort lines × TookAtLeast old new lines × AppendsPart s held new_held lines
Filters s old new held new_held (Err f) =
    (lines : List (List ℕ)) × (next : Option (List ℕ)) × Rows s old next held new_held lines × Stops next new f

-- ---- the whole input

-- a fault that the lines remember is returned again, and nothing is read or written
abbrev pub RepeatsFault
    : Option LineFault → Result (Unit {0}) LoadFault → Option (List ℕ) → Option (List ℕ) → Option (List ℕ) → Option (List ℕ) → Type 0
RepeatsFault remembered result old new held new_held =
    (fault : LineFault) → remembered ≡ Some fault → (result ≡ Err (Input (serve_fault_of fault))) × Keeps old new × Keeps held new_held

-- What a filter of an input writes: the rows of its words. If the script block has a fault, nothing is written.
abbrev pub IsFiltered : Option (List ℕ) → Option (List ℕ) → List ℕ → Option (List ℕ) → Option (List ℕ) → Result (Unit {0}) LoadFault → Type 0
IsFiltered old new external held new_held (Ok u) =
    (s : Source) × (lines : List (List ℕ)) × IsInput old new external s lines × AllShort lines
    × Appends held new_held (filter_output s (map chars lines))
IsFiltered old new external held new_held (Err (Script f)) = TookFault old new external f × Appends held new_held []
IsFiltered old new external held new_held (Err f) =
    (ReadsScript old new (Err f) × Appends held new_held [])
    ⊎ ((s : Source) × (between : Option (List ℕ)) × TookSource old between external s × Filters s between new held new_held (Err f))
