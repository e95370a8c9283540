-- What a run does from each kind of instruction on: the equations of `flow`.
use Rattle.std.proofs.Common.{◌≡◌, ℕ, Bool, false, List, [], ◌∷◌, map, rules, Box, Vec, Global}
use Rattle.std.specs.Prelude.{slice_set, slice_index_or}
use Rattle.std.specs.declared.rc.Rc.{Rc}
use Rattle.sbl_program.specs.Terms.{class_at}
use Rattle.sbl_program.specs.AmongStrings.{Listing}
use Rattle.sbl_program.specs.Program as programs
use Rattle.sbl_program.specs.ProgramOf.{view_action, view_number}
use Rattle.sbl_program.specs.declared.action.Action.{Action}
use Rattle.sbl_program.specs.declared.action.Arithmetic.{Arithmetic}
use Rattle.sbl_program.specs.Actions.{acts, test_grouping}
use Rattle.sbl_program.specs.Rows.{pays}
use Rattle.sbl_program.specs.Run.{calls}
use Rattle.sbl_program.specs.Search.{search_all}
use Rattle.sbl_semantics.specs.Choices.{choice}
use Rattle.sbl_semantics.specs.Control.{pay_first}
use Rattle.sbl_semantics.specs.Moves.{match, test_boolean}
use Rattle.sbl_semantics.specs.Moves as moves
use Rattle.sbl_semantics.specs.Slices.{left_bracket, right_bracket}
use Rattle.sbl_semantics.specs.State.{State, Signals, after, then_on, saved_cursor, put_back}
use Rattle.sbl_semantics.specs.declared.cursor.SavedCursor.{SavedCursor}
use Rattle.sbl_ast.specs.declared.mode.Mode.{Mode}
use Rattle.sbl_code.specs.declared.instruction.Instruction.{Instruction}
use Rattle.sbl_code.specs.declared.instruction.Instruction.TheVariants.{End, Pay, Character, Literal, Grouping, LeftBracket, RightBracket, Boolean, Next, Act, Save, Restore, Nested, Repeat, Loop, AtLeast, Seek, SeekGrouping, Backwards, SetLimit, Call, DoCall, Search, Choose}
use Rattle.sbl_code.specs.declared.instruction.Instruction.TheFolds.{fold_out-Instruction}
use Rattle.sbl_code.specs.declared.instruction.Instruction.TheViews.{the_lemmas}
use Rattle.sbl_code.specs.Slots.{no_cursor}
use Rattle.sbl_code.specs.declared.instruction.GroupCode.{GroupCode}
use Rattle.sbl_code.specs.declared.instruction.SearchSite.{SearchSite}
use Rattle.sbl_code.specs.Flow.{Flow, flow, back_if, group_flow, alone, chosen_flow, do_of, turns_of, loop_of, at_least_of, seek_of, backwards_of, limited_of}

abbrev I : Type 0
I = Rc Instruction Global

module _ (p : programs.Program) (levels : ℕ) (tables : ℕ → Listing) (m : Mode) (ys : List SavedCursor) (s : State) where
  abbrev F : Instruction → Flow
  F = flow p levels tables

  pub flow_end : (b : Bool) → F (End b) m ys s ≡ Signals b s
  flow_end b = first_of (search (rules, the_lemmas), search (rules, the_lemmas, fold_out-Instruction))

  pub flow_pay : (cost : ℕ) (next : I) → F (Pay cost next) m ys s ≡ then_on (pays cost s) (F next.value m ys)
  flow_pay cost next = first_of (search (rules, the_lemmas), search (rules, the_lemmas, fold_out-Instruction))

  pub flow_character : (cost c : ℕ) (back : Bool) (next fail : I) → F (Character cost c back next fail) m ys s ≡ then_on (pays cost s) (λ u. after (match (c ∷ []) m u) (F next.value m ys) (back_if back m u (F fail.value m ys)))
  flow_character cost c back next fail = first_of (search (rules, the_lemmas), search (rules, the_lemmas, fold_out-Instruction))

  pub flow_literal : (cost : ℕ) (string : Box (Vec ℕ Global) Global) (back : Bool) (next fail : I) → F (Literal cost string back next fail) m ys s ≡ then_on (pays cost s) (λ u. after (match string.value.items m u) (F next.value m ys) (back_if back m u (F fail.value m ys)))
  flow_literal cost string back next fail = first_of (search (rules, the_lemmas), search (rules, the_lemmas, fold_out-Instruction))

  pub flow_grouping : (cost : ℕ) (wanted : Bool) (g : ℕ) (back : Bool) (next fail : I) → F (Grouping cost wanted g back next fail) m ys s ≡ then_on (pays cost s) (λ u. after (test_grouping wanted (class_at p.groupings g) g m u) (F next.value m ys) (back_if back m u (F fail.value m ys)))
  flow_grouping cost wanted g back next fail = first_of (search (rules, the_lemmas), search (rules, the_lemmas, fold_out-Instruction))

  pub flow_left_bracket : (cost : ℕ) (next : I) → F (LeftBracket cost next) m ys s ≡ then_on (pays cost s) (λ u. F next.value m ys (left_bracket m u))
  flow_left_bracket cost next = first_of (search (rules, the_lemmas), search (rules, the_lemmas, fold_out-Instruction))

  pub flow_right_bracket : (cost : ℕ) (next : I) → F (RightBracket cost next) m ys s ≡ then_on (pays cost s) (λ u. F next.value m ys (right_bracket m u))
  flow_right_bracket cost next = first_of (search (rules, the_lemmas), search (rules, the_lemmas, fold_out-Instruction))

  pub flow_boolean : (cost x : ℕ) (next fail : I) → F (Boolean cost x next fail) m ys s ≡ then_on (pays cost s) (λ u. after (test_boolean x u) (F next.value m ys) (F fail.value m ys))
  flow_boolean cost x next fail = first_of (search (rules, the_lemmas), search (rules, the_lemmas, fold_out-Instruction))

  pub flow_next : (cost : ℕ) (next fail : I) → F (Next cost next fail) m ys s ≡ then_on (pays cost s) (λ u. after (moves.next m u) (F next.value m ys) (F fail.value m ys))
  flow_next cost next fail = first_of (search (rules, the_lemmas), search (rules, the_lemmas, fold_out-Instruction))

  pub flow_act : (cost : ℕ) (action : Box Action Global) (next fail : I) → F (Act cost action next fail) m ys s ≡ then_on (pays cost s) (λ u. after (acts p.groupings (view_action action.value) m u) (F next.value m ys) (F fail.value m ys))
  flow_act cost action next fail = first_of (search (rules, the_lemmas), search (rules, the_lemmas, fold_out-Instruction))

  pub flow_save : (cost slot : ℕ) (next : I) → F (Save cost slot next) m ys s ≡ then_on (pays cost s) (λ u. F next.value m (slice_set ys slot (saved_cursor u)) u)
  flow_save cost slot next = first_of (search (rules, the_lemmas), search (rules, the_lemmas, fold_out-Instruction))

  pub flow_restore : (slot : ℕ) (next : I) → F (Restore slot next) m ys s ≡ then_on (put_back m (slice_index_or ys slot no_cursor) s) (F next.value m ys)
  flow_restore slot next = first_of (search (rules, the_lemmas), search (rules, the_lemmas, fold_out-Instruction))

  pub flow_nested : (cost : ℕ) (body next fail : I) → F (Nested cost body next fail) m ys s ≡ then_on (pays cost s) (λ u. after (pay_first (alone (F body.value)) m u) (F next.value m ys) (F fail.value m ys))
  flow_nested cost body next fail = first_of (search (rules, the_lemmas), search (rules, the_lemmas, fold_out-Instruction))

  pub flow_repeat : (cost : ℕ) (body next : I) → F (Repeat cost body next) m ys s ≡ then_on (pays cost s) (λ u. after (pay_first (turns_of (alone (F body.value))) m u) (F next.value m ys) (Signals false))
  flow_repeat cost body next = first_of (search (rules, the_lemmas), search (rules, the_lemmas, fold_out-Instruction))

  pub flow_loop : (cost : ℕ) (count : Box Arithmetic Global) (body next fail : I) → F (Loop cost count body next fail) m ys s ≡ then_on (pays cost s) (λ u. after (pay_first (loop_of (view_number count.value) (alone (F body.value))) m u) (F next.value m ys) (F fail.value m ys))
  flow_loop cost count body next fail = first_of (search (rules, the_lemmas), search (rules, the_lemmas, fold_out-Instruction))

  pub flow_at_least : (cost : ℕ) (count : Box Arithmetic Global) (body next fail : I) → F (AtLeast cost count body next fail) m ys s ≡ then_on (pays cost s) (λ u. after (pay_first (at_least_of (view_number count.value) (alone (F body.value))) m u) (F next.value m ys) (F fail.value m ys))
  flow_at_least cost count body next fail = first_of (search (rules, the_lemmas), search (rules, the_lemmas, fold_out-Instruction))

  pub flow_seek : (cost : ℕ) (past : Bool) (body next fail : I) → F (Seek cost past body next fail) m ys s ≡ then_on (pays cost s) (λ u. after (pay_first (seek_of past (alone (F body.value))) m u) (F next.value m ys) (F fail.value m ys))
  flow_seek cost past body next fail = first_of (search (rules, the_lemmas), search (rules, the_lemmas, fold_out-Instruction))

  pub flow_seek_grouping : (cost : ℕ) (past : Bool) (g : ℕ) (wanted : Bool) (next fail : I) → F (SeekGrouping cost past g wanted next fail) m ys s ≡ then_on (pays cost s) (λ u. after (seek_of past (pay_first (test_grouping wanted (class_at p.groupings g) g)) m u) (F next.value m ys) (F fail.value m ys))
  flow_seek_grouping cost past g wanted next fail = first_of (search (rules, the_lemmas), search (rules, the_lemmas, fold_out-Instruction))

  pub flow_backwards : (cost : ℕ) (body next fail : I) → F (Backwards cost body next fail) m ys s ≡ then_on (pays cost s) (λ u. after (pay_first (backwards_of (alone (F body.value))) m u) (F next.value m ys) (F fail.value m ys))
  flow_backwards cost body next fail = first_of (search (rules, the_lemmas), search (rules, the_lemmas, fold_out-Instruction))

  pub flow_set_limit : (cost : ℕ) (first second next fail : I) → F (SetLimit cost first second next fail) m ys s ≡ then_on (pays cost s) (λ u. after (pay_first (limited_of (alone (F first.value)) (alone (F second.value))) m u) (F next.value m ys) (F fail.value m ys))
  flow_set_limit cost first second next fail = first_of (search (rules, the_lemmas), search (rules, the_lemmas, fold_out-Instruction))

  pub flow_call : (cost routine : ℕ) (next fail : I) → F (Call cost routine next fail) m ys s ≡ then_on (pays cost s) (λ u. after (pay_first (calls p levels routine) m u) (F next.value m ys) (F fail.value m ys))
  flow_call cost routine next fail = first_of (search (rules, the_lemmas), search (rules, the_lemmas, fold_out-Instruction))

  pub flow_do_call : (cost routine : ℕ) (next : I) → F (DoCall cost routine next) m ys s ≡ then_on (pays cost s) (λ u. after (pay_first (do_of (calls p levels routine)) m u) (F next.value m ys) (Signals false))
  flow_do_call cost routine next = first_of (search (rules, the_lemmas), search (rules, the_lemmas, fold_out-Instruction))

  pub flow_search : (cost among : ℕ) (site : Box SearchSite Global) (next fail : I) → F (Search cost among site next fail) m ys s ≡ then_on (pays cost s) (λ u. after (pay_first (search_all (calls p levels) among site.value.entries.items (tables site.value.table)) m u) (F next.value m ys) (F fail.value m ys))
  flow_search cost among site next fail = first_of (search (rules, the_lemmas), search (rules, the_lemmas, fold_out-Instruction))

  pub flow_choose : (cost among : ℕ) (bodies : Box (Vec GroupCode Global) Global) (next fail : I) → F (Choose cost among bodies next fail) m ys s ≡ then_on (pays cost s) (λ u. chosen_flow (choice among u) (map (group_flow p levels tables) bodies.value.items) (F next.value) (F fail.value) m ys u)
  flow_choose cost among bodies next fail = first_of (search (rules, the_lemmas), search (rules, the_lemmas, fold_out-Instruction))
