-- What a kind of instruction does from the state in which its steps are paid.
use Rattle.std.proofs.Common.{◌≡◌, ℕ, zero, suc, ◌<◌, ◌≤◌, Bool, true, false, List, [], ◌∷◌, map, length, get_or, Option, Some, Result, Err, arith, rules, refl, sym, ap, ◌∙◌, Box, Vec, Global}
use Rattle.std.specs.Prelude.{IfOk}
use Rattle.std.proofs.lemmas.Result.{IfOk-weaker}
use Rattle.std.specs.declared.rc.Rc.{Rc}
use Rattle.sbl_program.specs.AmongStrings.{Listing}
use Rattle.sbl_program.specs.Actions.{acts, test_grouping}
use Rattle.sbl_program.specs.Program as programs
use Rattle.sbl_program.specs.ProgramOf.{view_action}
use Rattle.sbl_program.specs.declared.action.Action.{Action}
use Rattle.sbl_program.specs.Terms.{class_at}
use Rattle.sbl_run_state.specs.declared.halt.Halt.{Halt}
use Rattle.sbl_run_state.specs.Endings.{Follows}
use Rattle.sbl_program.specs.Rows.{pays}
use Rattle.sbl_run_state.proofs.EarlyEnds.{follows_at, after_halts}
use Rattle.sbl_semantics.specs.Choices.{choice}
use Rattle.sbl_semantics.specs.Moves.{match}
use Rattle.sbl_semantics.specs.Slices.{left_bracket}
use Rattle.sbl_semantics.specs.State.{State, Ending, Signals, Stops, after, pay, then_on, saved_cursor}
use Rattle.sbl_semantics.specs.declared.cursor.SavedCursor.{SavedCursor}
use Rattle.sbl_ast.specs.declared.mode.Mode.{Mode}
use Rattle.sbl_ast.specs.declared.mode.Mode.TheVariants.{Forward, Backward}
use Rattle.sbl_code.specs.declared.instruction.GroupCode.{GroupCode, out-GroupCode}
use Rattle.sbl_code.specs.declared.instruction.Instruction.{Instruction}
use Rattle.sbl_code.specs.declared.instruction.Instruction.TheVariants.{Act, Character, Grouping, LeftBracket, Repeat, Choose}
use Rattle.sbl_code.specs.declared.instruction.Instruction.TheFolds.{fold_out-GroupCode}
use Rattle.sbl_code.specs.declared.instruction.Instruction.TheViews.{the_lemmas}
use Rattle.sbl_code.specs.Flow.{Flow, flow, back_if, group_flow, alone, chosen_flow, turns_of}
use Rattle.sbl_code.proofs.Instructions.{flow_act, flow_character, flow_grouping, flow_left_bracket, flow_repeat, flow_choose}
use Rattle.sbl_code.proofs.PerformingAt.{match_stays, grouping_stays, back_stays}

abbrev I : Type 0
I = Rc Instruction Global

-- the steps of a cost and the command's own are paid, and this state is left
abbrev pub IsPaid : ℕ → State → State → Type 0
IsPaid cost s u = then_on (pays cost s) (λ v. pay v.steps v) ≡ Signals true u

paid_of : (e : Ending) (pay_own : State → Ending) (u : State) (d f g : State → Ending) → then_on e pay_own ≡ Signals true u → then_on e (λ v. after (then_on (pay_own v) d) f g) ≡ after (d u) f g
paid_of (Signals true v) pay_own u d f g h = ap (λ r. after (then_on r d) f g) h
paid_of (Signals false v) pay_own u d f g h = let no : ⊥ = cc in absurd no
paid_of (Stops fault v) pay_own u d f g h = let no : ⊥ = cc in absurd no

pub after_paid : (cost : ℕ) (s u : State) (d f g : State → Ending) → IsPaid cost s u → then_on (pays cost s) (λ v. after (then_on (pay v.steps v) d) f g) ≡ after (d u) f g
after_paid cost s u d f g h = paid_of (pays cost s) (λ v. pay v.steps v) u d f g h

-- a command that ends early
pub ends_early : (r : Result Bool Halt) (halt : Halt) (new : State) (w e : Ending) (f g : State → Ending) → r ≡ Err halt → w ≡ after e f g → Follows (Err halt) new e → Follows r new w
ends_early r halt new w e f g is p h = rw is (follows_at (Err halt) new w (after e f g) p (after_halts halt new e f g h))

-- the steps of a cost are not left
pub unpaid : (r : Result Bool Halt) (halt : Halt) (new s : State) (cost : ℕ) (x w : Ending) (k : State → Ending) → r ≡ Err halt → x ≡ w → x ≡ then_on (pays cost s) k → Follows (Err halt) new (pays cost s) → Follows r new w
unpaid r halt new s cost x w k is inv flows h = ends_early r halt new w (pays cost s) k (Signals false) is (sym inv ∙ flows) h

-- they are, and it goes on
pub then_paid : (x w : Ending) (s u : State) (cost : ℕ) (k : State → Ending) → x ≡ w → x ≡ then_on (pays cost s) k → pays cost s ≡ Signals true u → w ≡ k u
then_paid x w s u cost k inv flows h = sym inv ∙ flows ∙ ap (λ r. then_on r k) h

-- the group's command, if there is one
picked_at : (f : GroupCode → Flow) (xs : List GroupCode) (g : ℕ) (x : GroupCode) (next fail : Flow) → g < length xs → x ≡ get_or xs g x → chosen_flow (Some g) (map f xs) next fail ≡ f x
picked_at f [] g x next fail l e = absurd (omega arith)
picked_at f (y ∷ ys) zero x next fail l e = ap f (sym e)
picked_at f (y ∷ ys) (suc g) x next fail l e = picked_at f ys g x next fail (omega arith) e

picked_past : (f : GroupCode → Flow) (xs : List GroupCode) (g : ℕ) (next fail : Flow) → length xs ≤ g → chosen_flow (Some g) (map f xs) next fail ≡ next
picked_past f [] g next fail l = refl
picked_past f (y ∷ ys) zero next fail l = absurd (omega arith)
picked_past f (y ∷ ys) (suc g) next fail l = picked_past f ys g next fail (omega arith)

group_is : (p : programs.Program) (levels : ℕ) (tables : ℕ → Listing) (x : GroupCode) → group_flow p levels tables x ≡ flow p levels tables (out-GroupCode x).first.value
group_is p levels tables x = first_of (search (rules, the_lemmas), search (rules, the_lemmas, fold_out-GroupCode))

-- what the command of a group does
pub group_does : (p : programs.Program) (levels : ℕ) (tables : ℕ → Listing) (m : Mode) (slots : List SavedCursor) (s : State) (x : GroupCode) (y : Instruction) → y ≡ (out-GroupCode x).first.value → group_flow p levels tables x m slots s ≡ flow p levels tables y m slots s
group_does p levels tables m slots s x y h = ap (λ (f : Flow). f m slots s) (group_is p levels tables x) ∙ ap (λ (i : Instruction). flow p levels tables i m slots s) (sym h)

pub left_steps : (m : Mode) (s : State) → (left_bracket m s).steps ≡ s.steps
left_steps Forward s = refl
left_steps Backward s = refl

-- no steps are added where the last call adds none
pub no_more_than : (r : Result Bool Halt) (new mid old : ℕ) → mid ≤ old → IfOk r (λ b. new ≤ mid) → IfOk r (λ b. new ≤ old)
no_more_than r new mid old l h = IfOk-weaker r (λ b. new ≤ mid) (λ b. new ≤ old) (λ b below. omega (arith, below, l)) h

module _ (p : programs.Program) (levels : ℕ) (tables : ℕ → Listing) (m : Mode) (slots : List SavedCursor) (s : State) (at : Instruction) where
  abbrev F : Instruction → Flow
  F = flow p levels tables

  -- a test whose steps are paid goes on at `next` on t, and at `fail` on f, where the cursor has stayed
  at_next : (cost : ℕ) (test : State → Ending) (back : Bool) (next fail : I) (u new : State) → F at m slots s ≡ then_on (pays cost s) (λ v. after (test v) (F next.value m slots) (back_if back m v (F fail.value m slots))) → pays cost s ≡ Signals true u → test u ≡ Signals true new → F at m slots s ≡ F next.value m slots new
  at_next cost test back next fail u new flows h t =
      flows ∙ ap (λ r. then_on r (λ v. after (test v) (F next.value m slots) (back_if back m v (F fail.value m slots)))) h ∙ ap (λ r. after r (F next.value m slots) (back_if back m u (F fail.value m slots))) t

  at_fail : (cost : ℕ) (test : State → Ending) (back : Bool) (next fail : I) (u new : State) → F at m slots s ≡ then_on (pays cost s) (λ v. after (test v) (F next.value m slots) (back_if back m v (F fail.value m slots))) → pays cost s ≡ Signals true u → test u ≡ Signals false new → saved_cursor new ≡ saved_cursor u → new.cursor ≤ length new.text → F at m slots s ≡ F fail.value m slots new
  at_fail cost test back next fail u new flows h t stayed inside =
      flows ∙ ap (λ r. then_on r (λ v. after (test v) (F next.value m slots) (back_if back m v (F fail.value m slots)))) h ∙ ap (λ r. after r (F next.value m slots) (back_if back m u (F fail.value m slots))) t ∙ back_stays back m u new (F fail.value m slots) stayed inside

  pub character_taken : (cost wanted : ℕ) (back : Bool) (next fail : I) (u new : State) → at ≡ Character cost wanted back next fail → pays cost s ≡ Signals true u → match (wanted ∷ []) m u ≡ Signals true new → F at m slots s ≡ F next.value m slots new
  character_taken cost wanted back next fail u new is h t =
      at_next cost (match (wanted ∷ []) m) back next fail u new (ap (λ (i : Instruction). F i m slots s) is ∙ flow_character p levels tables m slots s cost wanted back next fail) h t

  pub character_missed : (cost wanted : ℕ) (back : Bool) (next fail : I) (u new : State) → at ≡ Character cost wanted back next fail → pays cost s ≡ Signals true u → match (wanted ∷ []) m u ≡ Signals false new → new.cursor ≤ length new.text → F at m slots s ≡ F fail.value m slots new
  character_missed cost wanted back next fail u new is h t inside =
      at_fail cost (match (wanted ∷ []) m) back next fail u new (ap (λ (i : Instruction). F i m slots s) is ∙ flow_character p levels tables m slots s cost wanted back next fail) h t (match_stays (wanted ∷ []) m u new t) inside

  pub grouping_taken : (cost : ℕ) (wanted : Bool) (g : ℕ) (back : Bool) (next fail : I) (u new : State) → at ≡ Grouping cost wanted g back next fail → pays cost s ≡ Signals true u → test_grouping wanted (class_at p.groupings g) g m u ≡ Signals true new → F at m slots s ≡ F next.value m slots new
  grouping_taken cost wanted g back next fail u new is h t =
      at_next cost (test_grouping wanted (class_at p.groupings g) g m) back next fail u new (ap (λ (i : Instruction). F i m slots s) is ∙ flow_grouping p levels tables m slots s cost wanted g back next fail) h t

  pub grouping_missed : (cost : ℕ) (wanted : Bool) (g : ℕ) (back : Bool) (next fail : I) (u new : State) → at ≡ Grouping cost wanted g back next fail → pays cost s ≡ Signals true u → test_grouping wanted (class_at p.groupings g) g m u ≡ Signals false new → new.cursor ≤ length new.text → F at m slots s ≡ F fail.value m slots new
  grouping_missed cost wanted g back next fail u new is h t inside =
      at_fail cost (test_grouping wanted (class_at p.groupings g) g m) back next fail u new (ap (λ (i : Instruction). F i m slots s) is ∙ flow_grouping p levels tables m slots s cost wanted g back next fail) h t (grouping_stays wanted (class_at p.groupings g) g m u new t) inside

  -- a grouping that halts
  pub grouping_halts : (cost : ℕ) (wanted : Bool) (g : ℕ) (back : Bool) (next fail : I) (u : State) (r : Result Bool Halt) (halt : Halt) (new : State) → r ≡ Err halt → at ≡ Grouping cost wanted g back next fail → pays cost s ≡ Signals true u → Follows (Err halt) new (test_grouping wanted (class_at p.groupings g) g m u) → Follows r new (F at m slots s)
  grouping_halts cost wanted g back next fail u r halt new e is h halts =
      ends_early r halt new (F at m slots s) (test_grouping wanted (class_at p.groupings g) g m u) (F next.value m slots) (back_if back m u (F fail.value m slots)) e
      (ap (λ (i : Instruction). F i m slots s) is
      ∙ flow_grouping p levels tables m slots s cost wanted g back next fail
      ∙ ap (λ r. then_on r (λ v. after (test_grouping wanted (class_at p.groupings g) g m v) (F next.value m slots) (back_if back m v (F fail.value m slots)))) h)
      halts

  -- an action whose steps are paid
  pub act_paid : (cost : ℕ) (action : Box Action Global) (next fail : I) (u : State) → at ≡ Act cost action next fail → pays cost s ≡ Signals true u → F at m slots s ≡ after (acts p.groupings (view_action action.value) m u) (F next.value m slots) (F fail.value m slots)
  act_paid cost action next fail u is h =
      ap (λ (i : Instruction). F i m slots s) is ∙ flow_act p levels tables m slots s cost action next fail
      ∙ ap (λ r. then_on r (λ v. after (acts p.groupings (view_action action.value) m v) (F next.value m slots) (F fail.value m slots))) h

  pub left_bracketed : (cost : ℕ) (next : I) (u new : State) → at ≡ LeftBracket cost next → pays cost s ≡ Signals true u → new ≡ left_bracket m u → F at m slots s ≡ F next.value m slots new
  left_bracketed cost next u new is h e =
      ap (λ (i : Instruction). F i m slots s) is ∙ flow_left_bracket p levels tables m slots s cost next ∙ ap (λ r. then_on r (λ v. F next.value m slots (left_bracket m v))) h ∙ ap (F next.value m slots) (sym e)

  pub repeat_paid : (cost : ℕ) (body next : I) (x : Instruction) (u : State) → at ≡ Repeat cost body next → IsPaid cost s u → x ≡ body.value → F at m slots s ≡ after (turns_of (alone (F x)) m u) (F next.value m slots) (Signals false)
  repeat_paid cost body next x u is h hx =
      ap (λ (i : Instruction). F i m slots s) is
      ∙ flow_repeat p levels tables m slots s cost body next
      ∙ after_paid cost s u (turns_of (alone (F body.value)) m) (F next.value m slots) (Signals false) h
      ∙ ap (λ (z : Instruction). after (turns_of (alone (F z)) m u) (F next.value m slots) (Signals false)) (sym hx)

  choose_paid : (cost among : ℕ) (bodies : Box (Vec GroupCode Global) Global) (next fail : I) (u : State) (g : ℕ) → at ≡ Choose cost among bodies next fail → pays cost s ≡ Signals true u → choice among u ≡ Some g → F at m slots s ≡ chosen_flow (Some g) (map (group_flow p levels tables) bodies.value.items) (F next.value) (F fail.value) m slots u
  choose_paid cost among bodies next fail u g is h k =
      let pick = λ (o : Option ℕ) (v : State). chosen_flow o (map (group_flow p levels tables) bodies.value.items) (F next.value) (F fail.value) m slots v in
      ap (λ (i : Instruction). F i m slots s) is
      ∙ flow_choose p levels tables m slots s cost among bodies next fail
      ∙ ap (λ r. then_on r (λ v. pick (choice among v) v)) h
      ∙ ap (λ o. pick o u) k

  -- the chosen group has a command
  pub chosen_at : (cost among : ℕ) (bodies : Box (Vec GroupCode Global) Global) (next fail : I) (u : State) (g : ℕ) (ds : List GroupCode) (x : GroupCode) → at ≡ Choose cost among bodies next fail → pays cost s ≡ Signals true u → choice among u ≡ Some g → ds ≡ bodies.value.items → g < length ds → x ≡ get_or ds g x → F at m slots s ≡ group_flow p levels tables x m slots u
  chosen_at cost among bodies next fail u g ds x is h k same l e =
      choose_paid cost among bodies next fail u g is h k
      ∙ ap (λ xs. chosen_flow (Some g) (map (group_flow p levels tables) xs) (F next.value) (F fail.value) m slots u) (sym same)
      ∙ ap (λ (f : Flow). f m slots u) (picked_at (group_flow p levels tables) ds g x (F next.value) (F fail.value) l e)

  -- it has none
  pub chosen_past : (cost among : ℕ) (bodies : Box (Vec GroupCode Global) Global) (next fail : I) (u : State) (g : ℕ) (ds : List GroupCode) → at ≡ Choose cost among bodies next fail → pays cost s ≡ Signals true u → choice among u ≡ Some g → ds ≡ bodies.value.items → length ds ≤ g → F at m slots s ≡ F next.value m slots u
  chosen_past cost among bodies next fail u g ds is h k same l =
      choose_paid cost among bodies next fail u g is h k
      ∙ ap (λ xs. chosen_flow (Some g) (map (group_flow p levels tables) xs) (F next.value) (F fail.value) m slots u) (sym same)
      ∙ ap (λ (f : Flow). f m slots u) (picked_past (group_flow p levels tables) ds g (F next.value) (F fail.value) l)
