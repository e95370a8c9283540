-- What the whole of work reads and writes: the two files are read, and then the lines of the input get their replies.
use Rattle.std.specs.Prelude.{◌≡◌, ◌⊎◌, ℕ, Bool, List, [], Option, Some, None, Result, Ok, Err, string_bytes}
use Rattle.std.specs.Option.{is_some}
use Rattle.sbl_bench.specs.Contents.{Contents, opening_contents, opening_fault}
use Rattle.sbl_io.specs.Devices.{Tally}
use Rattle.sbl_io.specs.HeldInput.{input_of}
use Rattle.sbl_io.specs.declared.faults.ServeFault.{ServeFault}
use Rattle.sbl_io.specs.declared.faults.ServeFault.TheVariants as fault
use Rattle.sbl_io.specs.declared.lines.Lines.{Lines}
use Rattle.sbl_sessions.specs.Session.{Ends}
use Rattle.sbl_ast.specs.Source.{Source}
use Rattle.sbl_script.specs.Reading.{IsScriptOf}
use Rattle.sbl_history.specs.Desks.{State, first_desk}
use Rattle.sbl_work.specs.Serving.{IsWork}
use Rattle.sbl_work.specs.declared.files.Paths.{Paths}

-- A bench of a script that these bytes are with this external, and of some words. No definition says what a file has.
pub record IsOpened (external bytes : List ℕ) (s : Contents) : Type 0 where
  pub script : Source
  pub words : List (List ℕ)
  pub is_script : IsScriptOf bytes external script
  pub are_words : opening_fault [] words ≡ None
  pub bench : s ≡ opening_contents script words

-- the status is 0 without a fault, and 1 with one
abbrev pub status_of : {F : Type 0} → Result (Unit {0}) F → ℕ
status_of (Ok u) = 0
status_of (Err f) = 1

-- nothing was read, and nothing was written
abbrev pub IsUntouched : Option (List ℕ) → Option (List ℕ) → Option (List ℕ) → Option (List ℕ) → Type 0
IsUntouched input new_input held new_held = (new_input ≡ input) × (new_held ≡ held)

-- Work goes on from this bench and its desk at the start, and ends with this result, which has one of these reasons. Edits may be
-- broken off if this is true.
abbrev pub WorksFrom : (Result (Unit {0}) ServeFault → Type 0) → Bool → List ℕ → List ℕ
    → Option (List ℕ) → Option (List ℕ) → Option (List ℕ) → Option (List ℕ) → Contents → Result (Unit {0}) ServeFault → Type 0
WorksFrom Reasons may_break bytes prompt input new_input held new_held s result =
    (t : Contents) × (e : State) × IsWork prompt input new_input held new_held s (first_desk may_break s bytes) t e result × Reasons result

-- the same; or an allocation for the desk fails
abbrev pub WorksOrMemory : (Result (Unit {0}) ServeFault → Type 0) → Bool → List ℕ → List ℕ
    → Option (List ℕ) → Option (List ℕ) → Option (List ℕ) → Option (List ℕ) → Contents → Result (Unit {0}) ServeFault → Type 0
WorksOrMemory Reasons may_break bytes prompt input new_input held new_held s result =
    WorksFrom Reasons may_break bytes prompt input new_input held new_held s result
    ⊎ ((result ≡ Err fault.OutOfMemory) × IsUntouched input new_input held new_held)

-- There is no bench or no desk: the status is 1, and nothing is read or written. Or a bench is opened, the lines of the input get
-- their replies, and the status is that of their end.
abbrev pub IsWholeWork : (Result (Unit {0}) ServeFault → Type 0) → Bool → List ℕ → List ℕ
    → Option (List ℕ) → Option (List ℕ) → Option (List ℕ) → Option (List ℕ) → ℕ → Type 0
IsWholeWork Reasons may_break external prompt input new_input held new_held status =
    ((status ≡ 1) × IsUntouched input new_input held new_held)
    ⊎ ((bytes : List ℕ) × (s : Contents) × (served : Result (Unit {0}) ServeFault) × IsOpened external bytes s
    × WorksFrom Reasons may_break bytes prompt input new_input held new_held s served × (status ≡ status_of served))

-- The same over lines and a writer, with the external of these paths. Edits may be broken off if they have a file of `--stop`.
abbrev pub WorksOver : {R W : Type 0} → (R → Option (List ℕ)) → (R → Tally) → (W → Option (List ℕ)) → (W → Tally)
    → Paths → List ℕ → Lines R → Lines R → W → W → ℕ → Type 0
WorksOver left reads held writes paths prompt lines new_lines writer new_writer status =
    IsWholeWork (Ends reads writes lines new_lines writer new_writer) (is_some paths.stop) (string_bytes paths.external) prompt
    (input_of left lines) (input_of left new_lines) (held writer) (held new_writer) status
