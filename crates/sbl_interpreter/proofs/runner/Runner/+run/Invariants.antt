use Rattle.std.proofs.Common.{◌≡◌, ℕ, suc, ◌+◌, ◌*◌, ◌≤◌, ◌++◌}
use Rattle.std.specs.Prelude.{List}
use Rattle.sbl_semantics.specs.Fitting.{first}
use Rattle.sbl_program.specs.Listing.{fits_at}
use Rattle.sbl_program.specs.ProgramOf.{program_of}
use Rattle.sbl_program.specs.Run.{calls}
use Rattle.sbl_semantics.specs.Control.{turns, times, seeks}
use Rattle.sbl_program.specs.Search.{tries, search_strings, bound_in}
use Rattle.sbl_code.specs.Slots.{no_cursors}
use Rattle.sbl_code.specs.Flow.{flow, alone}
use Rattle.sbl_interpreter.proofs.runner.Runner.+run.Given as goal

-- Each of these calls of another is after a step or has a smaller summand.

abbrev pub decreases-run_from : goal.decreases-run_from
decreases-run_from g l = 8 * l.state.now.steps

abbrev pub decreases-run_inner : goal.decreases-run_inner
decreases-run_inner g l = 8 * l.state.now.steps + 6

abbrev pub decreases-run_turns : goal.decreases-run_turns
decreases-run_turns g l = 8 * l.state.now.steps + 4

abbrev pub decreases-run_body : goal.decreases-run_body
decreases-run_body g l = 8 * l.state.now.steps + 3

abbrev pub decreases-run_bracketed : goal.decreases-run_bracketed
decreases-run_bracketed g l = 8 * l.state.now.steps + 2

abbrev pub decreases-run_exit : goal.decreases-run_exit
decreases-run_exit g l = 8 * l.state.now.steps + 1

abbrev pub decreases-run_times : goal.decreases-run_times
decreases-run_times g l = 8 * l.state.now.steps + 1

abbrev pub decreases-run_at_least : goal.decreases-run_at_least
decreases-run_at_least g l = 8 * l.state.now.steps + 5

abbrev pub decreases-run_tries : goal.decreases-run_tries
decreases-run_tries g l = 8 * l.state.now.steps + 4

abbrev pub decreases-run_backwards : goal.decreases-run_backwards
decreases-run_backwards g l = 8 * l.state.now.steps + 1

abbrev pub decreases-run_limited : goal.decreases-run_limited
decreases-run_limited g l = 8 * l.state.now.steps + 1

abbrev pub decreases-run_call : goal.decreases-run_call
decreases-run_call g l = 8 * l.state.now.steps + 4

abbrev pub decreases-run_search_all : goal.decreases-run_search_all
decreases-run_search_all g l = 8 * l.state.now.steps + 4

abbrev pub decreases-run_search : goal.decreases-run_search
decreases-run_search g l = 8 * l.state.now.steps + 3

abbrev pub decreases-try_string : goal.decreases-try_string
decreases-try_string g l = 8 * l.state.now.steps + 2

-- what is left does from here what all of it does from the start
abbrev pub invariant-run_from-loop-at : goal.invariant-run_from-loop-at
invariant-run_from-loop-at g l =
    let T = g.T.Tables.listed l.self.tables.now in
    let P = program_of T l.self.code.now in
    (flow P l.self.levels T l.at l.self.mode l.slots l.state ≡ flow P l.self.levels T l.entry l.self.mode no_cursors l.initial.state) × (l.state.steps ≤ l.initial.state.steps)

-- the turns that are left do from here what all of them do from the start
abbrev pub invariant-run_turns-loop-state : goal.invariant-run_turns-loop-state
invariant-run_turns-loop-state g l =
    let T = g.T.Tables.listed l.self.tables.now in
    let c = alone (flow (program_of T l.self.code.now) l.self.levels T l.body) in
    (turns (suc l.left) c l.self.mode l.state ≡ turns (suc l.initial.state.steps) c l.self.mode l.initial.state) × (l.state.steps ≤ l.initial.state.steps)

abbrev pub decreases-run_turns-loop-state : goal.decreases-run_turns-loop-state
decreases-run_turns-loop-state g l = l.left

-- the same of the turns of `loop`
abbrev pub invariant-run_times-loop-left : goal.invariant-run_times-loop-left
invariant-run_times-loop-left g l =
    let T = g.T.Tables.listed l.self.tables.now in
    let c = alone (flow (program_of T l.self.code.now) l.self.levels T l.body) in
    (times l.left c l.self.mode l.state ≡ times l.initial.left c l.self.mode l.initial.state) × (l.state.steps ≤ l.initial.state.steps)

abbrev pub decreases-run_times-loop-left : goal.decreases-run_times-loop-left
decreases-run_times-loop-left g l = l.left

-- the same of the tries of `goto` and `gopast`
abbrev pub invariant-run_tries-loop-state : goal.invariant-run_tries-loop-state
invariant-run_tries-loop-state g l =
    let T = g.T.Tables.listed l.self.tables.now in
    let c = alone (flow (program_of T l.self.code.now) l.self.levels T l.body) in
    (seeks (suc l.left) l.past c l.self.mode l.state ≡ seeks (suc l.initial.state.steps) l.past c l.self.mode l.initial.state) × (l.state.steps ≤ l.initial.state.steps)

abbrev pub decreases-run_tries-loop-state : goal.decreases-run_tries-loop-state
decreases-run_tries-loop-state g l = l.left

-- the strings that are left do from here what all of them do from the start
abbrev pub invariant-run_search-loop-place : goal.invariant-run_search-loop-place
invariant-run_search-loop-place g l =
    let T = g.T.Tables.listed l.self.tables.now in
    let call = calls (program_of T l.self.code.now) l.self.levels in
    (before : List ℕ) × (rest : List ℕ) × (fits_at (T l.table) l.initial.state.text l.initial.state.cursor (bound_in l.self.mode l.initial.state) ≡ before ++ rest) × (l.place ≡ first rest) ×
    (tries call l.among l.entries l.self.mode l.initial.state rest l.state ≡ search_strings call l.among l.entries (T l.table) l.self.mode l.initial.state) ×
    (l.state.steps ≤ l.initial.state.steps)

abbrev pub decreases-run_search-loop-place : goal.decreases-run_search-loop-place
decreases-run_search-loop-place g l = l.state.steps
