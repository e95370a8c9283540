-- What an instruction does that runs others, except a call, before its exits. You need not believe anything here: it is what the
-- functions of the runner promise each other.
use Rattle.std.specs.Prelude.{◌≡◌, ℕ, true, Bool, Option, Result}
use Rattle.sbl_ast.specs.declared.mode.Mode.{Mode}
use Rattle.sbl_program.specs.AmongStrings.{Listing}
use Rattle.sbl_program.specs.ProgramOf.{program_of, view_number}
use Rattle.sbl_program.specs.declared.node.Candidate.{Candidate}
use Rattle.sbl_program.specs.Program as programs
use Rattle.sbl_program.specs.Run.{calls}
use Rattle.sbl_program.specs.Search.{search_all, try_one}
use Rattle.sbl_run_state.specs.Endings.{Tries}
use Rattle.sbl_run_state.specs.declared.halt.Halt.{Halt}
use Rattle.sbl_semantics.specs.State.{State, Ending, Signals, Doing, saved_cursor}
use Rattle.sbl_semantics.specs.declared.cursor.SavedCursor.{SavedCursor}
use Rattle.sbl_code.specs.declared.instruction.GroupCode.{GroupCode}
use Rattle.sbl_code.specs.declared.instruction.Instruction.{Instruction, out-Instruction}
use Rattle.sbl_code.specs.declared.instruction.Instruction.TheOpen.{Instruction-F}
use Rattle.sbl_code.specs.declared.instruction.Instruction.TheOpen as code
use Rattle.sbl_code.specs.Flow.{flow, alone, loop_of, at_least_of, seek_of, backwards_of, limited_of}
use Rattle.sbl_interpreter.specs.declared.runner.Runner.{Runner}

abbrev pub inner_step : programs.Program → ℕ → (ℕ → Listing) → Instruction-F Instruction GroupCode → Doing
inner_step p levels tables (code.Nested cost body next fail) = alone (flow p levels tables body.value)
inner_step p levels tables (code.Loop cost count body next fail) = loop_of (view_number count.value) (alone (flow p levels tables body.value))
inner_step p levels tables (code.AtLeast cost count body next fail) = at_least_of (view_number count.value) (alone (flow p levels tables body.value))
inner_step p levels tables (code.Seek cost past body next fail) = seek_of past (alone (flow p levels tables body.value))
inner_step p levels tables (code.Backwards cost body next fail) = backwards_of (alone (flow p levels tables body.value))
inner_step p levels tables (code.SetLimit cost first second next fail) =
    limited_of (alone (flow p levels tables first.value)) (alone (flow p levels tables second.value))
inner_step p levels tables (code.Search cost among site next fail) =
    search_all (calls p levels) among site.value.entries.items (tables site.value.table)
inner_step p levels tables i = λ m s. Signals true s

-- the same of an instruction; one that runs no others does nothing here
abbrev pub inner_of : programs.Program → ℕ → (ℕ → Listing) → Instruction → Doing
inner_of p levels tables at = inner_step p levels tables (out-Instruction at)

-- `listed` has the strings of each table
module _ {T : Type 0} (listed : T → ℕ → Listing) where
  -- the program whose code a runner runs
  abbrev pub program_in : Runner T → programs.Program
  program_in r = program_of (listed r.tables.now) r.code.now

  -- what a call of a routine does
  abbrev pub calls_in : Runner T → ℕ → Doing
  calls_in r = calls (program_in r) r.levels

  -- what instructions do that run by themselves
  abbrev pub alone_in : Runner T → Instruction → Doing
  alone_in r at = alone (flow (program_in r) r.levels (listed r.tables.now) at)

-- one string of a search that began where the cursor was saved, whatever follows it
abbrev pub TriesOne : (ℕ → Doing) → ℕ → Option Candidate → Mode → SavedCursor → State → Result Bool Halt → State → Type 0
TriesOne call among entry m from old result new =
    (begun : State) (follow : State → Ending) → from ≡ saved_cursor begun
    → Tries result new (try_one call among entry m begun old follow) (follow new)
