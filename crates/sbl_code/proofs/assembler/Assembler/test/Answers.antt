use Rattle.std.proofs.Common.{◌≡◌, ℕ, ◌+◌, true, false, refl, sym, ap, ◌∙◌}
use Rattle.std.proofs.lemmas.Result.{IfOk-weaker}
use Rattle.sbl_ast.specs.declared.mode.Mode.{Mode}
use Rattle.sbl_program.specs.AmongStrings.{Listing}
use Rattle.sbl_program.specs.Program as programs
use Rattle.sbl_program.specs.ProgramOf.{view_action}
use Rattle.sbl_program.specs.declared.action.Action.{Action}
use Rattle.sbl_program.specs.declared.action.Action.TheVariants.{Match}
use Rattle.sbl_program.specs.Actions.{acts}
use Rattle.sbl_semantics.specs.Moves.{match}
use Rattle.sbl_semantics.specs.State.{State}
use Rattle.sbl_code.specs.declared.assembler.Exits.{Exits}
use Rattle.sbl_code.specs.declared.instruction.Instruction.{Instruction}
use Rattle.sbl_code.specs.Performs.{Meaning, PerformsAtWithExits, PerformsWithExits, Restores, Tests, class_test}
use Rattle.sbl_code.proofs.PerformingAt.{anywhere, performs_test, same_meaning_at}
use Rattle.sbl_code.proofs.assembler.Assembler.test.Goals as goal

-- what the instructions of an action do, they do where the cursor is saved
act_anywhere : (action : Action) (cost slot : ℕ) (exits : Exits) (made : Instruction) →
    ((t : ℕ → Listing) (n : ℕ) → PerformsWithExits t (λ p levels. acts p.groupings (view_action action)) cost n exits made) →
    (t : ℕ → Listing) → PerformsAtWithExits t (λ p levels. acts p.groupings (view_action action)) cost slot exits made
act_anywhere action cost slot exits made h t = anywhere t (λ p levels. acts p.groupings (view_action action)) cost slot (slot + 1) exits.next.value exits.fail.value made refl (h t (slot + 1))

pub returns-in_default : goal.returns-in_default
returns-in_default c = IfOk-weaker c.act.result _ _ (λ made. act_anywhere c.args.action.now c.args.cost c.args.slot c.args.exits.now made.value) c.act.ensures

pub returns-in_default-term : goal.returns-in_default-term
returns-in_default-term c = IfOk-weaker c.act-in_default-term.result _ _ (λ made. act_anywhere c.args.action.now c.args.cost c.args.slot c.args.exits.now made.value) c.act-in_default-term.ensures

pub returns-in_default-action : goal.returns-in_default-action
returns-in_default-action c = IfOk-weaker c.act-in_default-action.result _ _ (λ made. act_anywhere c.args.action.now c.args.cost c.args.slot c.args.exits.now made.value) c.act-in_default-action.ensures

-- a test that means the action
test_means : (action : Action) (d : Meaning) (cost slot : ℕ) (exits : Exits) (stay made : Instruction) → Restores slot stay exits.fail.value →
    ((p : programs.Program) (levels : ℕ) (m : Mode) (s : State) → d p levels m s ≡ acts p.groupings (view_action action) m s) →
    ((t : ℕ → Listing) → Tests t d cost exits.next.value stay made) →
    (t : ℕ → Listing) → PerformsAtWithExits t (λ p levels. acts p.groupings (view_action action)) cost slot exits made
test_means action d cost slot exits stay made r q h t =
    same_meaning_at t d (λ p levels. acts p.groupings (view_action action)) cost slot exits.next.value exits.fail.value made q
    (performs_test t d cost slot exits.next.value exits.fail.value stay made r (h t))

pub returns-in-Literal : goal.returns-in-Literal
returns-in-Literal c =
    let means = λ (p : programs.Program) (levels : ℕ) (m : Mode) (s : State).
    ap (λ cs. match cs m s) c.deref.ensures.value ∙ ap (λ x. acts p.groupings (view_action (Match x)) m s) (sym c.in-Literal.is) ∙ ap (λ a. acts p.groupings (view_action a) m s) (sym c.in-Match.is)
    in
    IfOk-weaker c.test_literal.result _ _ (λ made. test_means c.args.action.now (λ p levels m s. match c.deref.result.now m s) c.args.cost c.args.slot c.args.exits.now c.in-Some.stay.now.value made.value c.in-Some.ensures means) c.test_literal.ensures

pub returns-in-Grouping : goal.returns-in-Grouping
returns-in-Grouping c = IfOk-weaker c.test_class.result _ _ (λ made. test_means c.args.action.now (class_test true c.in-Grouping.number) c.args.cost c.args.slot c.args.exits.now c.in-Some.stay.now.value made.value c.in-Some.ensures (λ p levels m s. ap (λ a. acts p.groupings (view_action a) m s) (sym c.in-Grouping.is))) c.test_class.ensures

pub returns-in-NonGrouping : goal.returns-in-NonGrouping
returns-in-NonGrouping c = IfOk-weaker c.test_class-in-NonGrouping.result _ _ (λ made. test_means c.args.action.now (class_test false c.in-NonGrouping.number) c.args.cost c.args.slot c.args.exits.now c.in-Some.stay.now.value made.value c.in-Some.ensures (λ p levels m s. ap (λ a. acts p.groupings (view_action a) m s) (sym c.in-NonGrouping.is))) c.test_class-in-NonGrouping.ensures
