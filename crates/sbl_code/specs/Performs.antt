-- What the instructions made of a command do: what the command does, and then what the instructions after it do.
use Rattle.std.specs.Prelude.{◌≡◌, ℕ, suc, ◌+◌, ◌<◌, Bool, true, false, List, [], ◌∷◌, slice_set, length, slice_index_or}
use Rattle.sbl_program.specs.AmongStrings.{Listing}
use Rattle.sbl_program.specs.Actions.{test_grouping}
use Rattle.sbl_program.specs.Chains.{JoinedView}
use Rattle.sbl_program.specs.ProgramOf.{view_next_command, view_node, view_nodes, view_number}
use Rattle.sbl_program.specs.Terms.{class_at}
use Rattle.sbl_program.specs.declared.action.Arithmetic.{Arithmetic}
use Rattle.sbl_program.specs.declared.node.JoinedNode.{JoinedNode}
use Rattle.sbl_program.specs.declared.node.Node.{Node}
use Rattle.sbl_program.specs.Rows.{pays, others_run}
use Rattle.sbl_program.specs.Run.{all_run, group_runs, runs}
use Rattle.sbl_program.specs.Program as programs
use Rattle.sbl_semantics.specs.Choices.{choice}
use Rattle.sbl_semantics.specs.Control.{pay_first}
use Rattle.sbl_semantics.specs.State.{State, Ending, Doing, Signals, after, then_on, saved_cursor, put_back}
use Rattle.sbl_semantics.specs.declared.cursor.SavedCursor.{SavedCursor}
use Rattle.sbl_ast.specs.declared.mode.Mode.{Mode}
use Rattle.sbl_code.specs.declared.instruction.Instruction.{Instruction}
use Rattle.sbl_code.specs.declared.instruction.GroupCode.{GroupCode, out-GroupCode}
use Rattle.sbl_code.specs.declared.assembler.Exits.{Exits}
use Rattle.sbl_code.specs.declared.assembler.Place.{Place}
use Rattle.sbl_code.specs.declared.assembler.Way.{Way}
use Rattle.sbl_code.specs.Flow.{Flow, flow, alone, counted_of, limited_of, way_does, wrapped_of}
use Rattle.sbl_code.specs.Slots.{no_cursor}

-- the first n slots hold the same
pub record Agree (n : ℕ) (xs ys : List SavedCursor) : Type 0 where
  pub as_many : length ys ≡ length xs
  pub same : (j : ℕ) → j < n → slice_index_or ys j no_cursor ≡ slice_index_or xs j no_cursor

-- A run goes on like this, whatever the slots from the n-th on hold.
abbrev pub GoesOn : Flow → Mode → ℕ → List SavedCursor → (State → Ending) → Type 0
GoesOn f m n slots go = (ys : List SavedCursor) → Agree n slots ys → (s : State) → f m ys s ≡ go s

-- what a command does in a program, if this many levels are left
abbrev pub Meaning : Type 0
Meaning = programs.Program → ℕ → Doing

-- the test of a character for a grouping, or for what is not in it
abbrev pub class_test : Bool → ℕ → Meaning
class_test wanted g p levels = test_grouping wanted (class_at p.groupings g) g

-- a command after its own steps
abbrev pub with_steps : ℕ → Meaning → Meaning
with_steps own meaning p levels m s = then_on (pays own s) (meaning p levels m)

-- `tables` has the strings of each table
module _ (tables : ℕ → Listing) where
  -- `loop AE C`, and `atleast AE C` if it repeats
  abbrev pub counted_node : Bool → Arithmetic → Node → Meaning
  counted_node repeats count inner p levels = pay_first (counted_of repeats (view_number count) (runs p levels (view_node tables inner)))

  -- `setlimit C1 for C2`, where instructions do C2
  abbrev pub limit_node : Node → Instruction → Meaning
  limit_node first second p levels = pay_first (limited_of (runs p levels (view_node tables first)) (alone (flow p levels tables second)))

  -- a command that saves the cursor before the command in it
  abbrev pub wrapped_node : Way → Way → Node → Meaning
  wrapped_node after_t after_f inner p levels =
      pay_first (wrapped_of (way_does after_t) (way_does after_f) (runs p levels (view_node tables inner)))

  -- what an among does before the command of its group, and then that command
  abbrev pub among_node : List Node → Meaning → Meaning
  among_node before chosen p levels = pay_first (λ m s. after (all_run p levels (view_nodes tables before) m s) (chosen p levels m) (Signals false))

  -- the command of the chosen group
  abbrev pub chosen_node : ℕ → List Node → Meaning
  chosen_node among bodies p levels m s = group_runs p levels (view_nodes tables bodies) (choice among s) m s

-- From `entry` on, a run uses some steps, does what a command means, and goes on with `next` after t and with `fail` after
-- f. The cursors that are saved in the first n slots stay.
abbrev pub Performs : (ℕ → Listing) → Meaning → ℕ → ℕ → Instruction → Instruction → Instruction → Type 0
Performs tables meaning cost n next fail entry =
    (p : programs.Program) (levels : ℕ) (m : Mode) (slots : List SavedCursor) (go stop : State → Ending) →
    length slots ≡ 4 →
    GoesOn (flow p levels tables next) m n slots go →
    GoesOn (flow p levels tables fail) m n slots stop →
    GoesOn (flow p levels tables entry) m n slots (λ s. after (then_on (pays cost s) (meaning p levels m)) go stop)

-- The cursor is where it was saved: to put it back to there is to put it back to where it is.
abbrev pub IsAt : Mode → SavedCursor → State → Type 0
IsAt m from s = (t : State) → put_back m (saved_cursor s) t ≡ put_back m from t

-- the same, for runs whose cursor is where slot n has it
abbrev pub PerformsAt : (ℕ → Listing) → Meaning → ℕ → ℕ → Instruction → Instruction → Instruction → Type 0
PerformsAt tables meaning cost n next fail entry =
    (p : programs.Program) (levels : ℕ) (m : Mode) (slots : List SavedCursor) (go stop : State → Ending) →
    length slots ≡ 4 →
    GoesOn (flow p levels tables next) m (suc n) slots go →
    GoesOn (flow p levels tables fail) m (suc n) slots stop →
    (ys : List SavedCursor) → Agree (suc n) slots ys → (s : State) → IsAt m (slice_index_or slots n no_cursor) s →
    flow p levels tables entry m ys s ≡ after (then_on (pays cost s) (meaning p levels m)) go stop

-- the same with the exits of a command
abbrev pub PerformsWithExits : (ℕ → Listing) → Meaning → ℕ → ℕ → Exits → Instruction → Type 0
PerformsWithExits tables meaning cost n exits entry = Performs tables meaning cost n exits.next.value exits.fail.value entry

-- a test after which the cursor is put back if it signals f
abbrev pub Tests : (ℕ → Listing) → Meaning → ℕ → Instruction → Instruction → Instruction → Type 0
Tests tables meaning cost next stay x =
    (p : programs.Program) (levels : ℕ) (m : Mode) (slots : List SavedCursor) (s : State) →
    flow p levels tables x m slots s
    ≡ then_on (pays cost s) (λ u. after (meaning p levels m u) (flow p levels tables next m slots)
    (λ f. then_on (put_back m (saved_cursor u) f) (flow p levels tables stay m slots)))

-- whatever the instructions for the chosen group of an among do, from `entry` on a run does it after what the among does before
abbrev pub PerformsAmong : (ℕ → Listing) → List Node → ℕ → ℕ → Exits → Instruction → Instruction → Type 0
PerformsAmong tables before cost n exits choose entry =
    (chosen : Meaning) → PerformsWithExits tables chosen 0 n exits choose
    → PerformsWithExits tables (among_node tables before chosen) cost n exits entry

abbrev pub PerformsAtWithExits : (ℕ → Listing) → Meaning → ℕ → ℕ → Exits → Instruction → Type 0
PerformsAtWithExits tables meaning cost n exits entry = PerformsAt tables meaning cost n exits.next.value exits.fail.value entry

-- ---- instructions and exits that the assembler makes on the way

-- the end, with a signal
abbrev pub Ends : Bool → Instruction → Type 0
Ends b x =
    (p : programs.Program) (levels : ℕ) (tables : ℕ → Listing) (m : Mode) (slots : List SavedCursor) (s : State) →
    flow p levels tables x m slots s ≡ Signals b s

-- puts the cursor of a slot back
abbrev pub Restores : ℕ → Instruction → Instruction → Type 0
Restores n next x =
    (p : programs.Program) (levels : ℕ) (tables : ℕ → Listing) (m : Mode) (slots : List SavedCursor) (s : State) →
    flow p levels tables x m slots s ≡ then_on (put_back m (slice_index_or slots n no_cursor) s) (flow p levels tables next m slots)

-- saves the cursor in a slot
abbrev pub Saves : ℕ → ℕ → Instruction → Instruction → Type 0
Saves cost n next x =
    (p : programs.Program) (levels : ℕ) (tables : ℕ → Listing) (m : Mode) (slots : List SavedCursor) (s : State) →
    flow p levels tables x m slots s ≡ then_on (pays cost s) (λ u. flow p levels tables next m (slice_set slots n (saved_cursor u)) u)

-- does what a command does, as instructions that run by themselves
abbrev pub Runs : (ℕ → Listing) → Meaning → Instruction → Type 0
Runs tables meaning x = (p : programs.Program) (levels : ℕ) (m : Mode) (s : State) → alone (flow p levels tables x) m s ≡ meaning p levels m s

abbrev pub IsPlaced : Bool → ℕ → ℕ → ℕ → Exits → Place → Type 0
IsPlaced false cost own slot exits place =
    (place.slot ≡ slot) × (place.cost ≡ cost + own) × (place.exits.next.value ≡ exits.next.value) × (place.exits.fail.value ≡ exits.fail.value)
IsPlaced true cost own slot exits place =
    (place.slot ≡ 0) × (place.cost + 1 ≡ own) × Ends true place.exits.next.value × Ends false place.exits.fail.value

-- A command that uses its own steps saves the cursor in slot `place.slot`: after those before it, if a slot is left; else it
-- runs by itself, and what runs it uses its first step.
abbrev pub IsPlace : ℕ → ℕ → ℕ → Exits → Place → Type 0
IsPlace cost own slot exits place = (place.slot < 4) × (0 < own) × IsPlaced place.nested cost own slot exits place

-- If a command is performed at its place by instructions that save the cursor there and go on with `inner`, from `entry` on a run
-- performs it after its own steps.
abbrev pub PerformsSaved : (ℕ → Listing) → ℕ → Exits → Place → Instruction → Instruction → Type 0
PerformsSaved tables cost exits place inner entry =
    (meaning : Meaning) (own slot : ℕ) → IsPlace cost own slot exits place
    → ((saving : Instruction) → Saves place.cost place.slot inner saving
    → PerformsWithExits tables meaning place.cost place.slot place.exits saving)
    → PerformsWithExits tables (with_steps own meaning) cost slot exits entry

-- what follows a command in it, in which the cursor is saved in slot n
abbrev pub Leaves : (ℕ → Listing) → ℕ → Instruction → Instruction → Instruction → (Mode → SavedCursor → State → Ending) → Type 0
Leaves tables n next fail own on =
    (p : programs.Program) (levels : ℕ) (m : Mode) (slots ys : List SavedCursor) (go stop : State → Ending) →
    GoesOn (flow p levels tables next) m n slots go →
    GoesOn (flow p levels tables fail) m n slots stop →
    Agree n slots ys →
    GoesOn (flow p levels tables own) m (suc n) ys (λ t. after (on m (slice_index_or ys n no_cursor) t) go stop)

-- From these exits on, a run does what is left of a row after t and after f. The cursor at the beginning of the row is in
-- slot n.
abbrev pub IsRest : (ℕ → Listing) → ℕ → List JoinedView → Exits → Exits → Type 0
IsRest tables n others exits rest =
    (p : programs.Program) (levels : ℕ) (m : Mode) (slots ys : List SavedCursor) (go stop : State → Ending) →
    length slots ≡ 4 →
    GoesOn (flow p levels tables exits.next.value) m n slots go →
    GoesOn (flow p levels tables exits.fail.value) m n slots stop →
    Agree n slots ys →
    GoesOn (flow p levels tables rest.next.value) m (suc n) ys
    (λ s. after (others_run p levels m (slice_index_or ys n no_cursor) others (Signals true s)) go stop) ×
    GoesOn (flow p levels tables rest.fail.value) m (suc n) ys
    (λ s. after (others_run p levels m (slice_index_or ys n no_cursor) others (Signals false s)) go stop)

-- if a row goes on at `rest` after a command, it goes on at `whole` before it
abbrev pub IsRestBefore : (ℕ → Listing) → ℕ → JoinedNode → Exits → Exits → Type 0
IsRestBefore tables n other rest whole =
    (exits : Exits) (others : List JoinedView) → IsRest tables n others exits rest
    → IsRest tables n (view_next_command tables other ∷ others) exits whole

-- for each command instructions that perform it
abbrev pub ArePerformed : (ℕ → Listing) → List Node → ℕ → Exits → List GroupCode → Type 0
ArePerformed tables nodes n exits [] = nodes ≡ []
ArePerformed tables [] n exits (x ∷ xs) = ⊥
ArePerformed tables (node ∷ nodes) n exits (x ∷ xs) =
    PerformsWithExits tables (λ p levels. runs p levels (view_node tables node)) 0 n exits (out-GroupCode x).first.value
    × ArePerformed tables nodes n exits xs

-- whatever commands the instructions of the groups perform, from `entry` on a run performs that of the chosen group
abbrev pub PerformsChosen : (ℕ → Listing) → ℕ → List GroupCode → ℕ → Exits → Instruction → Type 0
PerformsChosen tables among groups cost exits entry =
    (nodes : List Node) (n : ℕ) → ArePerformed tables nodes n exits groups
    → PerformsWithExits tables (chosen_node tables among nodes) cost n exits entry
