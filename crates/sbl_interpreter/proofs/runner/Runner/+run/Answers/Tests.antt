-- What the loop over instructions owes after a step, a test or a bracket.
use Rattle.std.proofs.Common.{◌≡◌, ◌≤◌, length, refl, sym, ap, ◌∙◌, arith}
use Rattle.sbl_program.specs.ProgramOf.{program_of}
use Rattle.sbl_semantics.specs.Slices.{right_bracket}
use Rattle.sbl_semantics.specs.State.{State, Signals, after}
use Rattle.sbl_ast.specs.declared.mode.Mode.{Mode}
use Rattle.sbl_ast.specs.declared.mode.Mode.TheVariants.{Forward, Backward}
use Rattle.sbl_code.specs.Flow.{flow}
use Rattle.sbl_code.proofs.Instructions.{flow_pay, flow_right_bracket, flow_boolean, flow_next}
use Rattle.sbl_interpreter.proofs.Flows.{then_paid, left_steps, left_bracketed, character_taken, character_missed}
use Rattle.sbl_interpreter.proofs.runner.Runner.+run.Goals as goal

right_steps : (m : Mode) (s : State) → (right_bracket m s).steps ≡ s.steps
right_steps Forward s = refl
right_steps Backward s = refl

pub run_from-loop-at-preserved-in-Pay-1 : goal.run_from-loop-at-preserved-in-Pay-1
run_from-loop-at-preserved-in-Pay-1 g t c =
    let T = g.T.Tables.listed c.args.self.now.tables.now in
    let P = program_of T c.args.self.now.code.now in
    let levels = c.args.self.now.levels in
    let m = c.args.self.now.mode in
    let inv = c.loop-at.invariant in
    let s = c.loop-at.state in
    let slots = c.loop-at.slots in
    let a = c.in-Pay in
    let u = c.pay_for.new.self in
    let no_more : u.steps ≤ s.steps = c.in_ok-pay_for-in-Pay.ensures.no_more in
    let paid = then_paid _ _ s u a.cost _ inv.0 (ap (λ x. flow P levels T x m slots s) a.is ∙ flow_pay P levels T m slots s a.cost a.next) c.in_ok-pay_for-in-Pay.ensures.leads in
    let steps : u.steps ≤ c.args.state.now.steps = omega (arith, no_more, inv.1) in
    (ap (λ x. flow P levels T x m slots u) c.deref-at.ensures ∙ sym paid, steps)

pub run_from-loop-at-preserved-in-LeftBracket-1 : goal.run_from-loop-at-preserved-in-LeftBracket-1
run_from-loop-at-preserved-in-LeftBracket-1 g t c =
    let T = g.T.Tables.listed c.args.self.now.tables.now in
    let P = program_of T c.args.self.now.code.now in
    let levels = c.args.self.now.levels in
    let m = c.args.self.now.mode in
    let inv = c.loop-at.invariant in
    let s = c.loop-at.state in
    let slots = c.loop-at.slots in
    let a = c.in-LeftBracket in
    let u = c.pay_for-in-LeftBracket.new.self in
    let no_more : u.steps ≤ s.steps = c.in_ok-pay_for-in-LeftBracket.ensures.no_more in
    let new = c.left_bracket.new.self in
    let whole = sym inv.0 ∙ left_bracketed P levels T m slots s c.loop-at.at.now a.cost a.next u new a.is c.in_ok-pay_for-in-LeftBracket.ensures.leads c.left_bracket.ensures in
    let same : new.steps ≡ u.steps = ap (λ (x : State). x.steps) c.left_bracket.ensures ∙ left_steps m u in
    let steps : new.steps ≤ c.args.state.now.steps = omega (arith, same, no_more, inv.1) in
    (ap (λ x. flow P levels T x m slots new) c.deref-at-in-LeftBracket.ensures ∙ sym whole, steps)

pub run_from-loop-at-preserved-in-RightBracket-1 : goal.run_from-loop-at-preserved-in-RightBracket-1
run_from-loop-at-preserved-in-RightBracket-1 g t c =
    let T = g.T.Tables.listed c.args.self.now.tables.now in
    let P = program_of T c.args.self.now.code.now in
    let levels = c.args.self.now.levels in
    let m = c.args.self.now.mode in
    let inv = c.loop-at.invariant in
    let s = c.loop-at.state in
    let slots = c.loop-at.slots in
    let a = c.in-RightBracket in
    let u = c.pay_for-in-RightBracket.new.self in
    let no_more : u.steps ≤ s.steps = c.in_ok-pay_for-in-RightBracket.ensures.no_more in
    let paid = then_paid _ _ s u a.cost _ inv.0 (ap (λ x. flow P levels T x m slots s) a.is ∙ flow_right_bracket P levels T m slots s a.cost a.next) c.in_ok-pay_for-in-RightBracket.ensures.leads in
    let new = c.right_bracket.new.self in
    let same : new.steps ≡ u.steps = ap (λ (x : State). x.steps) c.right_bracket.ensures ∙ right_steps m u in
    let steps : new.steps ≤ c.args.state.now.steps = omega (arith, same, no_more, inv.1) in
    (ap (λ x. flow P levels T x m slots new) c.deref-at-in-RightBracket.ensures ∙ ap (flow P levels T a.next.value m slots) c.right_bracket.ensures ∙ sym paid, steps)

pub run_from-loop-at-preserved-then-take_character : goal.run_from-loop-at-preserved-then-take_character
run_from-loop-at-preserved-then-take_character g t c =
    let T = g.T.Tables.listed c.args.self.now.tables.now in
    let P = program_of T c.args.self.now.code.now in
    let levels = c.args.self.now.levels in
    let m = c.args.self.now.mode in
    let inv = c.loop-at.invariant in
    let s = c.loop-at.state in
    let slots = c.loop-at.slots in
    let a = c.in-Character in
    let u = c.pay_for-in-Character.new.self in
    let new = c.take_character.new.self in
    let is = c.take_character.ensures.leads ∙ ap (λ v. Signals v new) c.if-take_character.true in
    let whole = sym inv.0 ∙ character_taken P levels T m slots s c.loop-at.at.now a.cost a.character a.back a.next a.fail u new a.is c.in_ok-pay_for-in-Character.ensures.leads is in
    let no_more : u.steps ≤ s.steps = c.in_ok-pay_for-in-Character.ensures.no_more in
    let same : new.steps ≡ u.steps = c.take_character.ensures.same_steps in
    let steps : new.steps ≤ c.args.state.now.steps = omega (arith, same, no_more, inv.1) in
    (ap (λ x. flow P levels T x m slots new) c.deref-at-then-take_character.ensures ∙ sym whole, steps)

pub run_from-loop-at-preserved-else-take_character : goal.run_from-loop-at-preserved-else-take_character
run_from-loop-at-preserved-else-take_character g t c =
    let T = g.T.Tables.listed c.args.self.now.tables.now in
    let P = program_of T c.args.self.now.code.now in
    let levels = c.args.self.now.levels in
    let m = c.args.self.now.mode in
    let inv = c.loop-at.invariant in
    let s = c.loop-at.state in
    let slots = c.loop-at.slots in
    let a = c.in-Character in
    let u = c.pay_for-in-Character.new.self in
    let new = c.take_character.new.self in
    let is = c.take_character.ensures.leads ∙ ap (λ v. Signals v new) c.if-take_character.false in
    let inside : new.cursor ≤ length new.text = omega (arith, c.place.ensures.value, c.place.ensures.within) in
    let whole = sym inv.0 ∙ character_missed P levels T m slots s c.loop-at.at.now a.cost a.character a.back a.next a.fail u new a.is c.in_ok-pay_for-in-Character.ensures.leads is inside in
    let no_more : u.steps ≤ s.steps = c.in_ok-pay_for-in-Character.ensures.no_more in
    let same : new.steps ≡ u.steps = c.take_character.ensures.same_steps in
    let steps : new.steps ≤ c.args.state.now.steps = omega (arith, same, no_more, inv.1) in
    (ap (λ x. flow P levels T x m slots new) c.deref-at-else-take_character.ensures ∙ sym whole, steps)

pub run_from-loop-at-preserved-then-test_boolean : goal.run_from-loop-at-preserved-then-test_boolean
run_from-loop-at-preserved-then-test_boolean g t c =
    let T = g.T.Tables.listed c.args.self.now.tables.now in
    let P = program_of T c.args.self.now.code.now in
    let levels = c.args.self.now.levels in
    let m = c.args.self.now.mode in
    let inv = c.loop-at.invariant in
    let s = c.loop-at.state in
    let slots = c.loop-at.slots in
    let a = c.in-Boolean in
    let u = c.pay_for-in-Boolean.new.self in
    let no_more : u.steps ≤ s.steps = c.in_ok-pay_for-in-Boolean.ensures.no_more in
    let paid = then_paid _ _ s u a.cost _ inv.0 (ap (λ x. flow P levels T x m slots s) a.is ∙ flow_boolean P levels T m slots s a.cost a.number a.next a.fail) c.in_ok-pay_for-in-Boolean.ensures.leads in
    let f = flow P levels T a.next.value m slots in
    let e = flow P levels T a.fail.value m slots in
    let is = c.test_boolean.ensures ∙ ap (λ v. Signals v u) c.if-test_boolean.true in
    let h = paid ∙ ap (λ r. after r f e) is in
    let steps : u.steps ≤ c.args.state.now.steps = omega (arith, no_more, inv.1) in
    (ap (λ x. flow P levels T x m slots u) c.deref-at-then-test_boolean.ensures ∙ sym h, steps)

pub run_from-loop-at-preserved-else-test_boolean : goal.run_from-loop-at-preserved-else-test_boolean
run_from-loop-at-preserved-else-test_boolean g t c =
    let T = g.T.Tables.listed c.args.self.now.tables.now in
    let P = program_of T c.args.self.now.code.now in
    let levels = c.args.self.now.levels in
    let m = c.args.self.now.mode in
    let inv = c.loop-at.invariant in
    let s = c.loop-at.state in
    let slots = c.loop-at.slots in
    let a = c.in-Boolean in
    let u = c.pay_for-in-Boolean.new.self in
    let no_more : u.steps ≤ s.steps = c.in_ok-pay_for-in-Boolean.ensures.no_more in
    let paid = then_paid _ _ s u a.cost _ inv.0 (ap (λ x. flow P levels T x m slots s) a.is ∙ flow_boolean P levels T m slots s a.cost a.number a.next a.fail) c.in_ok-pay_for-in-Boolean.ensures.leads in
    let f = flow P levels T a.next.value m slots in
    let e = flow P levels T a.fail.value m slots in
    let is = c.test_boolean.ensures ∙ ap (λ v. Signals v u) c.if-test_boolean.false in
    let h = paid ∙ ap (λ r. after r f e) is in
    let steps : u.steps ≤ c.args.state.now.steps = omega (arith, no_more, inv.1) in
    (ap (λ x. flow P levels T x m slots u) c.deref-at-else-test_boolean.ensures ∙ sym h, steps)

pub run_from-loop-at-preserved-then-take_next : goal.run_from-loop-at-preserved-then-take_next
run_from-loop-at-preserved-then-take_next g t c =
    let T = g.T.Tables.listed c.args.self.now.tables.now in
    let P = program_of T c.args.self.now.code.now in
    let levels = c.args.self.now.levels in
    let m = c.args.self.now.mode in
    let inv = c.loop-at.invariant in
    let s = c.loop-at.state in
    let slots = c.loop-at.slots in
    let a = c.in-Next in
    let u = c.pay_for-in-Next.new.self in
    let no_more : u.steps ≤ s.steps = c.in_ok-pay_for-in-Next.ensures.no_more in
    let paid = then_paid _ _ s u a.cost _ inv.0 (ap (λ x. flow P levels T x m slots s) a.is ∙ flow_next P levels T m slots s a.cost a.next a.fail) c.in_ok-pay_for-in-Next.ensures.leads in
    let f = flow P levels T a.next.value m slots in
    let e = flow P levels T a.fail.value m slots in
    let new = c.take_next.new.self in
    let is = c.take_next.ensures.leads ∙ ap (λ v. Signals v new) c.if-take_next.true in
    let h = paid ∙ ap (λ r. after r f e) is in
    let same : new.steps ≡ u.steps = c.take_next.ensures.same_steps in
    let steps : new.steps ≤ c.args.state.now.steps = omega (arith, same, no_more, inv.1) in
    (ap (λ x. flow P levels T x m slots new) c.deref-at-then-take_next.ensures ∙ sym h, steps)

pub run_from-loop-at-preserved-else-take_next : goal.run_from-loop-at-preserved-else-take_next
run_from-loop-at-preserved-else-take_next g t c =
    let T = g.T.Tables.listed c.args.self.now.tables.now in
    let P = program_of T c.args.self.now.code.now in
    let levels = c.args.self.now.levels in
    let m = c.args.self.now.mode in
    let inv = c.loop-at.invariant in
    let s = c.loop-at.state in
    let slots = c.loop-at.slots in
    let a = c.in-Next in
    let u = c.pay_for-in-Next.new.self in
    let no_more : u.steps ≤ s.steps = c.in_ok-pay_for-in-Next.ensures.no_more in
    let paid = then_paid _ _ s u a.cost _ inv.0 (ap (λ x. flow P levels T x m slots s) a.is ∙ flow_next P levels T m slots s a.cost a.next a.fail) c.in_ok-pay_for-in-Next.ensures.leads in
    let f = flow P levels T a.next.value m slots in
    let e = flow P levels T a.fail.value m slots in
    let new = c.take_next.new.self in
    let is = c.take_next.ensures.leads ∙ ap (λ v. Signals v new) c.if-take_next.false in
    let h = paid ∙ ap (λ r. after r f e) is in
    let same : new.steps ≡ u.steps = c.take_next.ensures.same_steps in
    let steps : new.steps ≤ c.args.state.now.steps = omega (arith, same, no_more, inv.1) in
    (ap (λ x. flow P levels T x m slots new) c.deref-at-else-take_next.ensures ∙ sym h, steps)
