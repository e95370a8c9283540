-- The code of a program: each routine has instructions that do what its body does.
use Rattle.std.specs.Prelude.{◌≡◌, ℕ, List, Option, Some, None, map, slice_get}
use Rattle.sbl_program.specs.AmongStrings.{Listing}
use Rattle.sbl_program.specs.ProgramOf.{view_routine}
use Rattle.sbl_program.specs.Program as programs
use Rattle.sbl_program.specs.declared.node.Routine.{Routine}
use Rattle.sbl_program.specs.Run.{runs}
use Rattle.sbl_semantics.specs.State.{State}
use Rattle.sbl_ast.specs.declared.mode.Mode.{Mode}
use Rattle.sbl_code.specs.declared.code.RoutineCode.{RoutineCode}
use Rattle.sbl_code.specs.Slots.{no_cursors}
use Rattle.sbl_code.specs.Flow.{flow}

-- the instructions of a routine do what its body does, in each program
pub record IsCodeOf (tables : ℕ → Listing) (code : RoutineCode) (routine : programs.Routine) : Type 0 where
  pub amongs : code.amongs ≡ routine.amongs
  pub does : (p : programs.Program) (levels : ℕ) (m : Mode) (s : State) →
      flow p levels tables code.first.value m no_cursors s ≡ runs p levels routine.body m s

-- there is code exactly if there is a routine
abbrev pub IsCodeOfAny : (ℕ → Listing) → Option RoutineCode → Option programs.Routine → Type 0
IsCodeOfAny tables None o = o ≡ None
IsCodeOfAny tables (Some code) o = (routine : programs.Routine) × (o ≡ Some routine) × IsCodeOf tables code routine

-- the code of all routines of a program
abbrev pub AreCodeOf : List RoutineCode → List Routine → Type 0
AreCodeOf codes routines = (tables : ℕ → Listing) (i : ℕ) → IsCodeOfAny tables (slice_get codes i) (slice_get (map (view_routine tables) routines) i)
