-- What `run` writes for files in the form of a list.
use Rattle.std.specs.Prelude.{◌≡◌, ℕ, List, [], Option, Some, None, Result, Ok, Err, length, take}
use Rattle.std.specs.Io.KnownBytes.{Appends}
use Rattle.sbl_bench.specs.Contents.{Contents, rows_now}
use Rattle.sbl_io.specs.declared.faults.ServeFault.{ServeFault}
use Rattle.sbl_io.specs.declared.faults.ServeFault.TheVariants as fault
use Rattle.sbl_reports.specs.StemLines.{stem_lines}
use Rattle.sbl_reports.specs.WordLists.{list_text}
use Rattle.sbl_rows.specs.Rows.{Row}
use Rattle.snowbench.specs.ScriptFiles.{IsFilesBench, LacksBench}
use Rattle.snowbench.specs.declared.listing.ListKind.{ListKind}
use Rattle.snowbench.specs.declared.listing.ListKind.TheVariants as kind
use Rattle.snowbench.specs.declared.script_files.FilesInput.{FilesInput}
use Rattle.snowbench.specs.declared.script_files.FilesFault.{FilesFault}
use Rattle.snowbench.specs.declared.script_files.FilesFault.TheVariants.{Run}

-- the list of some rows: of words and stems, or the stems alone, one a line; none if a run is refused or a stem is not one line
abbrev pub list_of : ListKind → List Row → Option (List ℕ)
list_of (kind.Words form) rows = Some (list_text form rows)
list_of kind.Stems rows = stem_lines rows

-- The list of rows is written, and the result is their number; or there is no list. If the writer failed, a prefix of the list is written;
-- if an allocation failed, nothing.
abbrev pub WritesList : ListKind → List Row → Option (List ℕ) → Option (List ℕ) → Result (Option ℕ) ServeFault → Type 0
WritesList k rows held new_held (Ok (Some n)) =
    (list : List ℕ) × (list_of k rows ≡ Some list) × (n ≡ length rows) × Appends held new_held list
WritesList k rows held new_held (Ok None) = (list_of k rows ≡ None) × Appends held new_held []
WritesList k rows held new_held (Err fault.Write) =
    (list : List ℕ) × (list_of k rows ≡ Some list) × (n : ℕ) × Appends held new_held (take n list)
WritesList k rows held new_held (Err fault.OutOfMemory) = Appends held new_held []
WritesList k rows held new_held (Err f) = ⊥

-- The list of the rows of the files' bench is written. Or there is no bench: nothing is written.
abbrev pub ListsFiles : ListKind → FilesInput → Option (List ℕ) → Option (List ℕ) → Result (Option ℕ) FilesFault → Type 0
ListsFiles k input held new_held (Ok n) = (s : Contents) × IsFilesBench input s × WritesList k (rows_now s) held new_held (Ok n)
ListsFiles k input held new_held (Err (Run f)) = (s : Contents) × IsFilesBench input s × WritesList k (rows_now s) held new_held (Err f)
ListsFiles k input held new_held (Err f) = LacksBench input f × Appends held new_held []
