-- When a machine is the machine of a script.
use Rattle.std.specs.Prelude.{◌≡◌, ℕ, List, slice_get}
use Rattle.sbl_ast.specs.declared.mode.Mode.{Mode}
use Rattle.sbl_machine.specs.declared.machine.Machine.{Machine}
use Rattle.sbl_semantics.specs.TouchedItems.{names_of}
use Rattle.sbl_program.specs.AmongStrings.{Listing}
use Rattle.sbl_program.specs.Listing.{listed_by}
use Rattle.sbl_program.specs.declared.linked.LinkedTable.{LinkedTable}
use Rattle.sbl_machine.specs.NumberedScript.{numbered_script}
use Rattle.sbl_program.specs.Program.{Program}
use Rattle.sbl_program.specs.ProgramOf.{program_of}
use Rattle.sbl_program.specs.LinkedStrings.{entries_of, mode_of}
use Rattle.sbl_ast.specs.Source.{Source}

-- the strings of an among of the machine, by its number
abbrev pub listed_in : (S : Type 0) → (S → List (List ℕ)) → (S → Mode) → Machine S → ℕ → Listing
listed_in S entries mode m k = listed_by S entries mode (slice_get m.tables.tables.items k)

-- the program of a machine
abbrev pub machine_plan : (S : Type 0) → (S → List (List ℕ)) → (S → Mode) → Machine S → Program
machine_plan S entries mode m = program_of (listed_in S entries mode m) m.code

-- a machine is that of a script if its program and its names are those of the script
unfoldable pub IsMachineOf : (S : Type 0) → (S → List (List ℕ)) → (S → Mode) → Machine S → Source → Type 0
IsMachineOf S entries mode m script = (machine_plan S entries mode m ≡ numbered_script script) × (m.names ≡ names_of script)

-- the same for a machine with linked tables
abbrev pub IsLinkedMachineOf : Machine LinkedTable → Source → Type 0
IsLinkedMachineOf m script = IsMachineOf LinkedTable entries_of mode_of m script
