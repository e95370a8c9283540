-- What a run does from an instruction on. You need not believe anything here: it is what the assembler and the runner
-- promise each other.
use Rattle.std.specs.Prelude.{ℕ, suc, Bool, true, false, List, [], ◌∷◌, Option, Some, None, slice_get, slice_set, slice_index_or}
use Rattle.std.specs.Option.{option_map_or}
use Rattle.sbl_program.specs.Terms.{class_at}
use Rattle.sbl_program.specs.AmongStrings.{Listing}
use Rattle.sbl_program.specs.ProgramOf.{view_action, view_number}
use Rattle.sbl_program.specs.Actions.{acts, test_grouping}
use Rattle.sbl_program.specs.Arithmetic.{value}
use Rattle.sbl_program.specs.Rows.{pays}
use Rattle.sbl_program.specs.Run.{calls}
use Rattle.sbl_program.specs.Program as programs
use Rattle.sbl_program.specs.Search.{search_all}
use Rattle.sbl_semantics.specs.Choices.{choice}
use Rattle.sbl_semantics.specs.Control.{turns, times, count_of, seeks, limits, limit_here, restore_limit, backwards_from, backwards_end, pay_first}
use Rattle.sbl_semantics.specs.Moves.{match, test_boolean}
use Rattle.sbl_semantics.specs.Moves as moves
use Rattle.sbl_semantics.specs.Numbers.{continue_with}
use Rattle.sbl_semantics.specs.Slices.{left_bracket, right_bracket}
use Rattle.sbl_semantics.specs.State.{State, Ending, Signals, Doing, after, then_on, saved_cursor, put_back}
use Rattle.sbl_semantics.specs.declared.cursor.SavedCursor.{SavedCursor}
use Rattle.sbl_ast.specs.declared.mode.Mode.{Mode}
use Rattle.sbl_ast.specs.declared.mode.Mode.TheVariants.{Backward}
use Rattle.sbl_code.specs.Slots.{no_cursor, no_cursors}
use Rattle.sbl_code.specs.declared.assembler.Way.{Way}
use Rattle.sbl_code.specs.declared.assembler.Way.TheVariants.{Next, Fail, Back}
use Rattle.sbl_code.specs.declared.instruction.Instruction.{Instruction}
use Rattle.sbl_code.specs.declared.instruction.Instruction.TheOpen.{Instruction-F, GroupCode-F}
use Rattle.sbl_code.specs.declared.instruction.Instruction.TheOpen as code
use Rattle.sbl_code.specs.declared.instruction.Instruction.TheFolds.{fold-Instruction, fold-GroupCode}
use Rattle.sbl_code.specs.declared.instruction.GroupCode.{GroupCode}

-- what a run does from an instruction on, with these saved cursors
abbrev pub Flow : Type 0
Flow = Mode → List SavedCursor → State → Ending

-- the same of instructions that run by themselves
abbrev pub alone : Flow → Doing
alone f m s = f m no_cursors s

-- ---- what commands do, given what the commands in them do

-- how it goes on after the command in it, with this saved cursor
abbrev pub way_does : Way → Mode → SavedCursor → State → Ending
way_does Next m from s = Signals true s
way_does Fail m from s = Signals false s
way_does Back m from s = put_back m from s

-- a command that saves the cursor before the command in it
abbrev pub wrapped_of : (Mode → SavedCursor → State → Ending) → (Mode → SavedCursor → State → Ending) → Doing → Doing
wrapped_of on_t on_f c m s = after (c m s) (on_t m (saved_cursor s)) (on_f m (saved_cursor s))

abbrev pub not_of : Doing → Doing
not_of c m s = after (c m s) (Signals false) (put_back m (saved_cursor s))

abbrev pub test_of : Doing → Doing
test_of c m s = after (c m s) (put_back m (saved_cursor s)) (Signals false)

abbrev pub try_of : Doing → Doing
try_of c m s = after (c m s) (Signals true) (put_back m (saved_cursor s))

abbrev pub do_of : Doing → Doing
do_of c m s = after (c m s) (put_back m (saved_cursor s)) (put_back m (saved_cursor s))

abbrev pub fail_of : Doing → Doing
fail_of c m s = after (c m s) (Signals false) (Signals false)

abbrev pub turns_of : Doing → Doing
turns_of c m s = turns (suc s.steps) c m s

abbrev pub loop_of : programs.Arithmetic → Doing → Doing
loop_of n c m s = continue_with (value n m s) s (λ z. times (count_of z) c m s)

abbrev pub at_least_of : programs.Arithmetic → Doing → Doing
at_least_of n c m s = after (loop_of n c m s) (turns_of c m) (Signals false)

abbrev pub counted_of : Bool → programs.Arithmetic → Doing → Doing
counted_of true = at_least_of
counted_of false = loop_of

abbrev pub bracket_of : Bool → Mode → State → State
bracket_of true = left_bracket
bracket_of false = right_bracket

abbrev pub seek_of : Bool → Doing → Doing
seek_of past c m s = seeks (suc s.steps) past c m s

abbrev pub backwards_of : Doing → Doing
backwards_of c m s = then_on (backwards_from s) (λ b. after (c Backward b) backwards_end (Signals false))

abbrev pub limited_of : Doing → Doing → Doing
limited_of c d m s =
    after (c m s) (λ t. then_on (put_back m (saved_cursor s) (limit_here m t)) (λ u. restore_limit m (limits s) (d m u))) (Signals false)

-- what a run does from the instruction of the chosen group on: `fail` if none is chosen, `next` if the group has no command
abbrev pub chosen_flow : Option ℕ → List Flow → Flow → Flow → Flow
chosen_flow None bodies next fail = fail
chosen_flow (Some g) bodies next fail = option_map_or (λ f. f) (slice_get bodies g) next

-- whether the cursor is put back to where it was at `from`
abbrev pub back_if : Bool → Mode → State → (State → Ending) → State → Ending
back_if true m from go s = then_on (put_back m (saved_cursor from) s) go
back_if false m from go s = go s

abbrev pub flow_step : programs.Program → ℕ → (ℕ → Listing) → Instruction-F Flow Flow → Flow
flow_step p levels tables (code.End b) m slots s = Signals b s
flow_step p levels tables (code.Pay cost next) m slots s = then_on (pays cost s) (next.value m slots)
flow_step p levels tables (code.Character cost c back next fail) m slots s =
    then_on (pays cost s) (λ u. after (match (c ∷ []) m u) (next.value m slots) (back_if back m u (fail.value m slots)))
flow_step p levels tables (code.Literal cost string back next fail) m slots s =
    then_on (pays cost s) (λ u. after (match string.value.items m u) (next.value m slots) (back_if back m u (fail.value m slots)))
flow_step p levels tables (code.Grouping cost wanted g back next fail) m slots s =
    then_on (pays cost s) (λ u. after (test_grouping wanted (class_at p.groupings g) g m u)
    (next.value m slots) (back_if back m u (fail.value m slots)))
flow_step p levels tables (code.LeftBracket cost next) m slots s = then_on (pays cost s) (λ u. next.value m slots (left_bracket m u))
flow_step p levels tables (code.RightBracket cost next) m slots s = then_on (pays cost s) (λ u. next.value m slots (right_bracket m u))
flow_step p levels tables (code.Boolean cost x next fail) m slots s =
    then_on (pays cost s) (λ u. after (test_boolean x u) (next.value m slots) (fail.value m slots))
flow_step p levels tables (code.Next cost next fail) m slots s =
    then_on (pays cost s) (λ u. after (moves.next m u) (next.value m slots) (fail.value m slots))
flow_step p levels tables (code.Act cost action next fail) m slots s =
    then_on (pays cost s) (λ u. after (acts p.groupings (view_action action.value) m u) (next.value m slots) (fail.value m slots))
flow_step p levels tables (code.Save cost slot next) m slots s =
    then_on (pays cost s) (λ u. next.value m (slice_set slots slot (saved_cursor u)) u)
flow_step p levels tables (code.Restore slot next) m slots s =
    then_on (put_back m (slice_index_or slots slot no_cursor) s) (next.value m slots)
flow_step p levels tables (code.Nested cost body next fail) m slots s =
    then_on (pays cost s) (λ u. after (pay_first (alone body.value) m u) (next.value m slots) (fail.value m slots))
flow_step p levels tables (code.Repeat cost body next) m slots s =
    then_on (pays cost s) (λ u. after (pay_first (turns_of (alone body.value)) m u) (next.value m slots) (Signals false))
flow_step p levels tables (code.Loop cost count body next fail) m slots s =
    then_on (pays cost s) (λ u. after (pay_first (loop_of (view_number count.value) (alone body.value)) m u)
    (next.value m slots) (fail.value m slots))
flow_step p levels tables (code.AtLeast cost count body next fail) m slots s =
    then_on (pays cost s) (λ u. after (pay_first (at_least_of (view_number count.value) (alone body.value)) m u)
    (next.value m slots) (fail.value m slots))
flow_step p levels tables (code.Seek cost past body next fail) m slots s =
    then_on (pays cost s) (λ u. after (pay_first (seek_of past (alone body.value)) m u) (next.value m slots) (fail.value m slots))
flow_step p levels tables (code.SeekGrouping cost past g wanted next fail) m slots s =
    then_on (pays cost s) (λ u. after (seek_of past (pay_first (test_grouping wanted (class_at p.groupings g) g)) m u)
    (next.value m slots) (fail.value m slots))
flow_step p levels tables (code.Backwards cost body next fail) m slots s =
    then_on (pays cost s) (λ u. after (pay_first (backwards_of (alone body.value)) m u) (next.value m slots) (fail.value m slots))
flow_step p levels tables (code.SetLimit cost first second next fail) m slots s =
    then_on (pays cost s) (λ u. after (pay_first (limited_of (alone first.value) (alone second.value)) m u) (next.value m slots) (fail.value m slots))
flow_step p levels tables (code.Call cost routine next fail) m slots s =
    then_on (pays cost s) (λ u. after (pay_first (calls p levels routine) m u) (next.value m slots) (fail.value m slots))
flow_step p levels tables (code.DoCall cost routine next) m slots s =
    then_on (pays cost s) (λ u. after (pay_first (do_of (calls p levels routine)) m u) (next.value m slots) (Signals false))
flow_step p levels tables (code.Search cost among site next fail) m slots s =
    then_on (pays cost s) (λ u. after (pay_first (search_all (calls p levels) among site.value.entries.items (tables site.value.table)) m u)
    (next.value m slots) (fail.value m slots))
flow_step p levels tables (code.Choose cost among bodies next fail) m slots s =
    then_on (pays cost s) (λ u. chosen_flow (choice among u) bodies.value.items next.value fail.value m slots u)

abbrev pub group_step : GroupCode-F Flow Flow → Flow
group_step g = g.first.value

-- what a run of a program does from an instruction on, if this many levels are left; `tables` has the strings of each table
abbrev pub flow : programs.Program → ℕ → (ℕ → Listing) → Instruction → Flow
flow p levels tables = fold-Instruction Flow Flow (flow_step p levels tables) group_step

-- the same of the command of a group
abbrev pub group_flow : programs.Program → ℕ → (ℕ → Listing) → GroupCode → Flow
group_flow p levels tables = fold-GroupCode Flow Flow (flow_step p levels tables) group_step
