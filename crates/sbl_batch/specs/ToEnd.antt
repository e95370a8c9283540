-- What a filter of a script writes for words that are all lines up to the end of input: no line ends them.
use Rattle.std.specs.Prelude.{◌≡◌, ◌⊎◌, ◌≤◌, ◌+◌, ◌-◌, ◌^◌, ℕ, false, List, [], ◌∷◌, Option, Result, Ok, Err, length, map, min}
use Rattle.std.specs.Str.{chars, is_utf8}
use Rattle.std.specs.Io.KnownBytes.{Appends, IsAtEnd}
use Rattle.sbl_ast.specs.Source.{Source}
use Rattle.sbl_batch.specs.Filter.{AllShort, AppendsPart, IsLong, TookAtLeast, filter_output}
use Rattle.sbl_batch.specs.declared.word_fault.WordFault.{WordFault}
use Rattle.sbl_bench.specs.declared.fault.EditFault.TheVariants as edit
use Rattle.sbl_input.specs.Loading.{AllText}
use Rattle.sbl_input.specs.declared.faults.LoadFault.{LoadFault}
use Rattle.sbl_input.specs.declared.faults.LoadFault.TheVariants.{Input, Open}
use Rattle.sbl_io.specs.HeldInput.{AllFit, BeginsLong, BreaksOff, Took}
use Rattle.sbl_io.specs.LinesOf.{max_line}
use Rattle.sbl_io.specs.declared.faults.ServeFault.TheVariants as fault

-- Lines were taken, each is a word or empty, and the rows of the words are written.
pub record WordRows (s : Source) (old new held new_held : Option (List ℕ)) (lines : List (List ℕ)) : Type 0 where
  pub words : AllFit lines × AllText lines × AllShort lines
  pub took : Took old new lines
  pub text : Appends held new_held (filter_output s (map chars lines))

-- the next line was taken
abbrev pub TookNext : Option (List ℕ) → Option (List ℕ) → List ℕ → Type 0
TookNext old new line = (length line ≤ max_line) × Took old new (line ∷ [])

-- There is no more row: the reader stopped in the next line, that line is too long, or it is no word; or an allocation failed in
-- it or before it.
abbrev pub StopsAt : Option (List ℕ) → Option (List ℕ) → LoadFault → Type 0
StopsAt old new (Input fault.Read) = (part : List ℕ) × BreaksOff old new part
StopsAt old new (Input fault.LineTooLong) = BeginsLong old
StopsAt old new (Input fault.NotText) = (line : List ℕ) × TookNext old new line × (is_utf8 line ≡ false)
StopsAt old new (Input fault.OutOfMemory) = Took old new [] ⊎ ((line : List ℕ) × TookNext old new line)
StopsAt old new (Open f) = (f ≡ edit.WordTooLong) × (line : List ℕ) × TookNext old new line × IsLong line
StopsAt old new f = ⊥

-- the number of the line after these, from 1, as far as numbers go
abbrev pub line_after : List (List ℕ) → ℕ
line_after lines = min (length lines + 1) (2 ^ 64 - 1)

-- why the rows end after these lines, and what is written then: their rows, or after a failed write a prefix
abbrev pub EndsAfter
    : Source → Option (List ℕ) → Option (List ℕ) → Option (List ℕ) → Option (List ℕ) → List (List ℕ) → LoadFault → Type 0
EndsAfter s old new held new_held lines (Input fault.Write) =
    (AllFit lines × AllText lines × AllShort lines) × TookAtLeast old new lines × AppendsPart s held new_held lines
EndsAfter s old new held new_held lines f = (next : Option (List ℕ)) × WordRows s old next held new_held lines × StopsAt next new f

-- What a filter writes for words up to the end of input: all rows; or those of the lines before a fault, which has the number of
-- the next line.
abbrev pub FiltersToEnd : Source → Option (List ℕ) → Option (List ℕ) → Option (List ℕ) → Option (List ℕ) → Result (Unit {0}) WordFault → Type 0
FiltersToEnd s old new held new_held (Ok u) = (lines : List (List ℕ)) × WordRows s old new held new_held lines × IsAtEnd new
FiltersToEnd s old new held new_held (Err f) =
    (lines : List (List ℕ)) × EndsAfter s old new held new_held lines f.fault × (f.line ≡ line_after lines)

-- the same without the number of the line
abbrev pub without_line : Result (Unit {0}) WordFault → Result (Unit {0}) LoadFault
without_line (Ok u) = Ok u
without_line (Err f) = Err f.fault

-- ---- names for proofs

-- a result, with the number of the line of its fault
abbrev pub with_line : ℕ → Result (Unit {0}) LoadFault → Result (Unit {0}) WordFault
with_line line (Ok u) = Ok u
with_line line (Err f) = Err (record { line = line; fault = f })
