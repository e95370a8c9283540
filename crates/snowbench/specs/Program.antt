-- What the program writes for its input, and its exit status.
use Rattle.std.specs.Prelude.{◌≡◌, ◌⊎◌, ◌+◌, ◌++◌, ◌==◌, ℕ, List, [], ◌∷◌, Option, None, Result, Ok}
use Rattle.std.specs.Prelude.{Err, IfErr, codes, if◌then◌else◌, min, string_bytes, take}
use Rattle.std.specs.Io.KnownBytes.{Appends, Keeps}
use Rattle.sbl_command_line.specs.declared.command_line.Verb.{Verb}
use Rattle.sbl_command_line.specs.declared.command_line.Verb.TheVariants.{Session, Stem, Filter, Check, Compare, Work}
use Rattle.sbl_command_line.specs.declared.command_line.Wanted.{Wanted}
use Rattle.sbl_input.specs.declared.faults.LoadFault.{LoadFault}
use Rattle.sbl_input.specs.declared.faults.LoadFault.TheVariants.{Input}
use Rattle.sbl_io.specs.Devices.{HasStopped, IsUnused, Tally, max_count}
use Rattle.sbl_io.specs.HeldInput.{HasCause, InTime, KeepsTime, input_of, max_reads, reads_bound}
use Rattle.sbl_io.specs.declared.lines.Lines.{Lines}
use Rattle.sbl_io.specs.declared.faults.ServeFault.TheVariants as fault
use Rattle.sbl_batch.specs.Filter.{IsFiltered}
use Rattle.snowbench.specs.StemmedRows.{IsStemmed}
use Rattle.snowbench.specs.WholeCheck.{IsWholeCheck}
use Rattle.snowbench.specs.WholeSession.{IsWholeSession}

-- ---- what is written

-- What a subcommand with this external writes for an input, and the number of differences or the fault; only `check` has
-- differences. `compare` and `work` have entries of their own: here they read and write nothing.
abbrev pub IsAnswer : Verb → List ℕ → Option (List ℕ) → Option (List ℕ) → Option (List ℕ) → Option (List ℕ) → Result ℕ LoadFault → Type 0
IsAnswer Session external input left held new_held (Ok n) = IsWholeSession input left external held new_held (Ok tt) × (n ≡ 0)
IsAnswer Session external input left held new_held (Err f) = IsWholeSession input left external held new_held (Err f)
IsAnswer Stem external input left held new_held (Ok n) = IsStemmed input left external held new_held (Ok tt) × (n ≡ 0)
IsAnswer Stem external input left held new_held (Err f) = IsStemmed input left external held new_held (Err f)
IsAnswer Filter external input left held new_held (Ok n) = IsFiltered input left external held new_held (Ok tt) × (n ≡ 0)
IsAnswer Filter external input left held new_held (Err f) = IsFiltered input left external held new_held (Err f)
IsAnswer Check external input left held new_held result = IsWholeCheck input left external held new_held result
IsAnswer Compare external input left held new_held result = (result ≡ Ok 0) × Keeps input left × Appends held new_held []
IsAnswer Work external input left held new_held result = (result ≡ Ok 0) × Keeps input left × Appends held new_held []

-- ---- why it ends with a fault

-- A fault of reading or writing is caused by the device or a limit.
abbrev pub HasReasons : {R W : Type 0} → (R → Tally) → (W → Tally) → Lines R → Lines R → W → W → LoadFault → Type 0
HasReasons reads writes lines new_lines writer new_writer f =
    (f ≡ Input fault.Read → HasCause reads lines new_lines) × (f ≡ Input fault.Write → HasStopped writes writer new_writer)

-- ---- the line of a fault, and the status

-- The line of a fault with this text. What the text of a fault is, no definition says.
abbrev pub fault_line : List ℕ → List ℕ
fault_line text = codes "snowbench: " ++ text ++ 10 ∷ []

-- The line is written, or a prefix of it if the device stops.
abbrev pub IsWritten : {E : Type 0} → (E → Option (List ℕ)) → (E → Tally) → E → E → List ℕ → Type 0
IsWritten held tally errors new_errors text =
    Appends (held errors) (held new_errors) text
    ⊎ ((n : ℕ) × Appends (held errors) (held new_errors) (take n text) × HasStopped tally errors new_errors)

-- The status is 0 if there is neither a difference nor a fault, and 1 otherwise. A fault is one line in `errors`; without a
-- fault nothing is written there.
abbrev pub IsReported : {E : Type 0} → (E → Option (List ℕ)) → (E → Tally) → E → E → ℕ → Result ℕ LoadFault → Type 0
IsReported held tally errors new_errors status (Ok n) =
    (status ≡ (if n == 0 then 0 else 1)) × Appends (held errors) (held new_errors) []
IsReported held tally errors new_errors status (Err f) =
    (status ≡ 1) × (text : List ℕ) × IsWritten held tally errors new_errors (fault_line text)

-- ---- a run over lines, and over a reader

-- The result of the lines' input is written and reported, and a fault of reading or writing has its cause.
pub record Runs {R W E : Type 0} (left : R → Option (List ℕ)) (reads : R → Tally) (held : W → Option (List ℕ)) (writes : W → Tally)
    (said : E → Option (List ℕ)) (says : E → Tally) (wanted : Wanted)
    (lines last : Lines R) (writer new_writer : W) (errors new_errors : E) (status : ℕ) : Type 0 where
  pub result : Result ℕ LoadFault
  pub is_written : IsAnswer wanted.verb (string_bytes wanted.external) (input_of left lines) (input_of left last)
      (held writer) (held new_writer) result
  pub has_cause : IfErr result (λ f. HasReasons reads writes lines last writer new_writer f)
  pub is_reported : IsReported said says errors new_errors status result

-- these lines were made of the reader, and nothing was read yet
pub record AreLinesOf {R : Type 0} (left : R → Option (List ℕ)) (tally : R → Tally) (reader : R) (lines : Lines R) : Type 0 where
  pub input : input_of left lines ≡ left reader
  pub fault : lines.fault ≡ None
  pub counts : tally lines.reader ≡ tally reader
  pub bound : reads_bound tally lines ≡ min ((tally reader).reads + max_reads) max_count
  pub in_time : IsUnused (tally reader) → InTime tally lines

-- Lines were made of the reader and run, `last` are these lines at the end, and no read is late.
pub record RunsLines {R W E : Type 0} (left : R → Option (List ℕ)) (reads : R → Tally) (held : W → Option (List ℕ)) (writes : W → Tally)
    (said : E → Option (List ℕ)) (says : E → Tally) (wanted : Wanted)
    (reader : R) (writer new_writer : W) (errors new_errors : E) (status : ℕ) : Type 0 where
  pub lines : Lines R
  pub last : Lines R
  pub made : AreLinesOf left reads reader lines
  pub in_time : KeepsTime reads lines last
  pub bound : reads_bound reads last ≡ reads_bound reads lines
  pub runs : Runs left reads held writes said says wanted lines last writer new_writer errors new_errors status

-- There is no memory for the buffers of lines: the status is 1, nothing is written, and `errors` gets the line of that fault. Or lines of
-- the reader were run.
abbrev pub RunsOver : {R W E : Type 0} → (R → Option (List ℕ)) → (R → Tally) → (W → Option (List ℕ)) → (W → Tally)
    → (E → Option (List ℕ)) → (E → Tally) → Wanted → R → W → W → E → E → ℕ → Type 0
RunsOver left reads held writes said says wanted reader writer new_writer errors new_errors status =
    ((status ≡ 1) × Appends (held writer) (held new_writer) [] × IsWritten said says errors new_errors (fault_line (codes "49 OutOfMemory")))
    ⊎ RunsLines left reads held writes said says wanted reader writer new_writer errors new_errors status
