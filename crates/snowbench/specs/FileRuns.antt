-- What a run over files writes.
use Rattle.std.specs.Prelude.{◌≡◌, ℕ, List, [], Option, None, Some, Result, Ok, Err, ⊤, option_map, take}
use Rattle.std.specs.Io.KnownBytes.{Appends, Keeps}
use Rattle.sbl_ast.specs.Source.{Source}
use Rattle.sbl_batch.specs.Differences.{IsChecked}
use Rattle.sbl_bench.specs.Contents.{Contents}
use Rattle.sbl_input.specs.declared.faults.LoadFault.TheVariants.{Input}
use Rattle.sbl_io.specs.Devices.{Tally}
use Rattle.sbl_io.specs.declared.lines.Lines.{Lines}
use Rattle.sbl_io.specs.declared.faults.ServeFault.TheVariants as fault
use Rattle.sbl_reports.specs.Listings.{stems_text}
use Rattle.sbl_sessions.specs.Session.{IsSession}
use Rattle.snowbench.specs.Program.{HasReasons}
use Rattle.snowbench.specs.ScriptFiles.{HasFileScript, IsFileScript, IsFilesBench, LacksBench, LacksFileScript, overlong_line, placed_at}
use Rattle.snowbench.specs.declared.script_files.FilesInput.{FilesInput}
use Rattle.snowbench.specs.declared.script_files.FilesFault.{FilesFault}
use Rattle.snowbench.specs.declared.script_files.FilesFault.TheVariants.{Run, Script, Stems, Words}
use Rattle.snowbench.specs.declared.script_files.FileFault.{FileFault}

-- ---- a session

-- The session goes on from the bench of the files, with these commands. Or there is no bench: no command is read, and nothing is written.
abbrev pub IsFilesSession : FilesInput → Option (List ℕ) → Option (List ℕ) → Option (List ℕ) → Option (List ℕ) → Result (Unit {0}) FilesFault → Type 0
IsFilesSession input left new_left held new_held (Ok u) =
    (s : Contents) × (t : Contents) × IsFilesBench input s
    × IsSession (record { input = left; held = held; bench = s }) (record { input = new_left; held = new_held; bench = t }) (Ok u)
IsFilesSession input left new_left held new_held (Err (Run f)) =
    (s : Contents) × (t : Contents) × IsFilesBench input s
    × IsSession (record { input = left; held = held; bench = s }) (record { input = new_left; held = new_held; bench = t }) (Err f)
IsFilesSession input left new_left held new_held (Err f) = LacksBench input f × Keeps left new_left × Appends held new_held []

-- a fault of the run is caused by the device or a limit, if it is one of reading or writing
abbrev pub HasFilesReasons : {R W : Type 0} → (R → Tally) → (W → Tally) → Lines R → Lines R → W → W → FilesFault → Type 0
HasFilesReasons reads writes lines new_lines writer new_writer (Run f) = HasReasons reads writes lines new_lines writer new_writer (Input f)
HasFilesReasons reads writes lines new_lines writer new_writer f = ⊤

-- ---- rows

-- The rows of the bench of the files are written; if the writer failed, a prefix of them. Otherwise nothing is written.
abbrev pub WritesFilesRows : FilesInput → Option (List ℕ) → Option (List ℕ) → Result (Unit {0}) FilesFault → Type 0
WritesFilesRows input held new_held (Ok u) = (s : Contents) × IsFilesBench input s × Appends held new_held (stems_text s)
WritesFilesRows input held new_held (Err (Run fault.Write)) =
    (s : Contents) × IsFilesBench input s × (n : ℕ) × Appends held new_held (take n (stems_text s))
WritesFilesRows input held new_held (Err (Run f)) = (f ≡ fault.OutOfMemory) × (s : Contents) × IsFilesBench input s × Appends held new_held []
WritesFilesRows input held new_held (Err f) = LacksBench input f × Appends held new_held []

-- ---- a check

-- the fault of the first line that is too long
abbrev pub overlong_fault : List ℕ → Option FileFault
overlong_fault bytes = option_map (λ n. placed_at n fault.LineTooLong) (overlong_line bytes)

-- The script of the file is checked on the two lists, whose lines all fit. Otherwise nothing is written.
abbrev pub ChecksFiles : FilesInput → List ℕ → Option (List ℕ) → Option (List ℕ) → Result ℕ FilesFault → Type 0
ChecksFiles input stems held new_held (Ok n) =
    (s : Source) × IsFileScript input.script.now input.external.now s × (overlong_fault input.words.now ≡ None) × (overlong_fault stems ≡ None)
    × IsChecked s input.words.now stems held new_held (Ok n)
ChecksFiles input stems held new_held (Err (Run f)) =
    (s : Source) × IsFileScript input.script.now input.external.now s × (overlong_fault input.words.now ≡ None) × (overlong_fault stems ≡ None)
    × IsChecked s input.words.now stems held new_held (Err f)
ChecksFiles input stems held new_held (Err (Script f)) = LacksFileScript input.script.now input.external.now f × Appends held new_held []
ChecksFiles input stems held new_held (Err (Words f)) =
    HasFileScript input.script.now input.external.now × (overlong_fault input.words.now ≡ Some f) × Appends held new_held []
ChecksFiles input stems held new_held (Err (Stems f)) =
    HasFileScript input.script.now input.external.now × (overlong_fault input.words.now ≡ None) × (overlong_fault stems ≡ Some f)
    × Appends held new_held []
