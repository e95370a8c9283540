-- What the loop over instructions owes at the choice of a group and at a grouping.
use Rattle.std.proofs.Common.{◌≡◌, map, Some, ◌≤◌, ◌<◌, true, false, sym, ap, ◌∙◌, arith, length, get_or, Vec, Global}
use Rattle.sbl_program.specs.CharacterClasses.{members}
use Rattle.sbl_program.specs.Terms.{class_at}
use Rattle.sbl_program.specs.ProgramOf.{program_of}
use Rattle.sbl_program.specs.declared.node.Program.{Program}
use Rattle.sbl_program.specs.Actions.{test_grouping}
use Rattle.sbl_semantics.specs.Choices.{choice}
use Rattle.sbl_semantics.specs.State.{Signals}
use Rattle.sbl_code.specs.Flow.{flow}
use Rattle.sbl_code.specs.declared.instruction.GroupCode.{GroupCode, out-GroupCode}
use Rattle.sbl_interpreter.proofs.Flows.{chosen_at, chosen_past, group_does, grouping_taken, grouping_missed}
use Rattle.sbl_interpreter.proofs.runner.Runner.+run.Goals as goal

pub run_from-loop-at-preserved-in-None-get : goal.run_from-loop-at-preserved-in-None-get
run_from-loop-at-preserved-in-None-get g t c =
    let T = g.T.Tables.listed c.args.self.now.tables.now in
    let P = program_of T c.args.self.now.code.now in
    let levels = c.args.self.now.levels in
    let m = c.args.self.now.mode in
    let inv = c.loop-at.invariant in
    let s = c.loop-at.state in
    let slots = c.loop-at.slots in
    let at = c.loop-at.at.now in
    let a = c.in-Choose in
    let u = c.pay_for-in-Choose.new.self in
    let bodies = c.deref-in-Some.result.now in
    let ds = c.deref-in-Some-2.result.now in
    let ds_is : ds ≡ a.bodies.value.items = c.deref-in-Some-2.ensures.value ∙ ap (λ (v : Vec GroupCode Global). v.items) c.deref-in-Some.ensures in
    let group = c.in-Some.group in
    let is : choice a.among u ≡ Some group = sym c.choice.ensures ∙ c.in-Some.is in
    let no_more : u.steps ≤ s.steps = c.in_ok-pay_for-in-Choose.ensures.no_more in
    let steps : u.steps ≤ c.args.state.now.steps = omega (arith, no_more, inv.1) in
    let l : length ds ≤ group = c.in-None-get.ensures.lookup.3 in
    let whole = sym inv.0 ∙ chosen_past P levels T m slots s at a.cost a.among a.bodies a.next a.fail u group ds a.is c.in_ok-pay_for-in-Choose.ensures.leads is ds_is l in
    (ap (λ x. flow P levels T x m slots u) c.deref-in-None-get.ensures ∙ sym whole, steps)

pub run_from-loop-at-preserved-in-Some-get : goal.run_from-loop-at-preserved-in-Some-get
run_from-loop-at-preserved-in-Some-get g t c =
    let T = g.T.Tables.listed c.args.self.now.tables.now in
    let P = program_of T c.args.self.now.code.now in
    let levels = c.args.self.now.levels in
    let m = c.args.self.now.mode in
    let inv = c.loop-at.invariant in
    let s = c.loop-at.state in
    let slots = c.loop-at.slots in
    let at = c.loop-at.at.now in
    let a = c.in-Choose in
    let u = c.pay_for-in-Choose.new.self in
    let bodies = c.deref-in-Some.result.now in
    let ds = c.deref-in-Some-2.result.now in
    let ds_is : ds ≡ a.bodies.value.items = c.deref-in-Some-2.ensures.value ∙ ap (λ (v : Vec GroupCode Global). v.items) c.deref-in-Some.ensures in
    let group = c.in-Some.group in
    let is : choice a.among u ≡ Some group = sym c.choice.ensures ∙ c.in-Some.is in
    let no_more : u.steps ≤ s.steps = c.in_ok-pay_for-in-Choose.ensures.no_more in
    let steps : u.steps ≤ c.args.state.now.steps = omega (arith, no_more, inv.1) in
    let body = c.in-Some-get.body.now in
    let l : group < length ds = c.in-Some-get.ensures.lookup.3.0 in
    let r : body ≡ get_or ds group body = c.in-Some-get.ensures.lookup.1 in
    let whole = sym inv.0 ∙ chosen_at P levels T m slots s at a.cost a.among a.bodies a.next a.fail u group ds body a.is c.in_ok-pay_for-in-Choose.ensures.leads is ds_is l r in
    let y = c.deref-in-Some-get.result.now in
    let first : y ≡ (out-GroupCode body).first.value = c.deref-in-Some-get.ensures in
    (sym (whole ∙ group_does P levels T m slots u body y first), steps)

pub run_from-loop-at-preserved-then-branch-3 : goal.run_from-loop-at-preserved-then-branch-3
run_from-loop-at-preserved-then-branch-3 g t c =
    let T = g.T.Tables.listed c.args.self.now.tables.now in
    let P = program_of T c.args.self.now.code.now in
    let levels = c.args.self.now.levels in
    let m = c.args.self.now.mode in
    let inv = c.loop-at.invariant in
    let s = c.loop-at.state in
    let slots = c.loop-at.slots in
    let a = c.in-Grouping in
    let u = c.pay_for-in-Grouping.new.self in
    let new = c.take_grouping.new.self in
    let classes : map members c.deref-in-Grouping.result.now ≡ P.groupings = ap (map members) c.deref-in-Grouping.ensures.value ∙ ap (λ (x : Program). map members x.groupings.items) c.program-in-Grouping.ensures in
    let b : c.in_ok-take_grouping-in-Grouping.field-0 ≡ true = c.if-branch-3.true in
    let is = ap (λ cs. test_grouping a.wanted (class_at cs a.grouping) a.grouping m u) (sym classes) ∙ c.in_ok-take_grouping-in-Grouping.ensures.follows ∙ ap (λ v. Signals v new) b in
    let whole = sym inv.0 ∙ grouping_taken P levels T m slots s c.loop-at.at.now a.cost a.wanted a.grouping a.back a.next a.fail u new a.is c.in_ok-pay_for-in-Grouping.ensures.leads is in
    let no_more : u.steps ≤ s.steps = c.in_ok-pay_for-in-Grouping.ensures.no_more in
    let same : new.steps ≡ u.steps = c.in_ok-take_grouping-in-Grouping.ensures.same_steps in
    let steps : new.steps ≤ c.args.state.now.steps = omega (arith, same, no_more, inv.1) in
    (ap (λ x. flow P levels T x m slots new) c.deref-at-then-branch-3.ensures ∙ sym whole, steps)

pub run_from-loop-at-preserved-else-branch-3 : goal.run_from-loop-at-preserved-else-branch-3
run_from-loop-at-preserved-else-branch-3 g t c =
    let T = g.T.Tables.listed c.args.self.now.tables.now in
    let P = program_of T c.args.self.now.code.now in
    let levels = c.args.self.now.levels in
    let m = c.args.self.now.mode in
    let inv = c.loop-at.invariant in
    let s = c.loop-at.state in
    let slots = c.loop-at.slots in
    let a = c.in-Grouping in
    let u = c.pay_for-in-Grouping.new.self in
    let new = c.take_grouping.new.self in
    let classes : map members c.deref-in-Grouping.result.now ≡ P.groupings = ap (map members) c.deref-in-Grouping.ensures.value ∙ ap (λ (x : Program). map members x.groupings.items) c.program-in-Grouping.ensures in
    let b : c.in_ok-take_grouping-in-Grouping.field-0 ≡ false = c.if-branch-3.false in
    let is = ap (λ cs. test_grouping a.wanted (class_at cs a.grouping) a.grouping m u) (sym classes) ∙ c.in_ok-take_grouping-in-Grouping.ensures.follows ∙ ap (λ v. Signals v new) b in
    let inside : new.cursor ≤ length new.text = omega (arith, c.place-else-branch-3.ensures.value, c.place-else-branch-3.ensures.within) in
    let whole = sym inv.0 ∙ grouping_missed P levels T m slots s c.loop-at.at.now a.cost a.wanted a.grouping a.back a.next a.fail u new a.is c.in_ok-pay_for-in-Grouping.ensures.leads is inside in
    let no_more : u.steps ≤ s.steps = c.in_ok-pay_for-in-Grouping.ensures.no_more in
    let same : new.steps ≡ u.steps = c.in_ok-take_grouping-in-Grouping.ensures.same_steps in
    let steps : new.steps ≤ c.args.state.now.steps = omega (arith, same, no_more, inv.1) in
    (ap (λ x. flow P levels T x m slots new) c.deref-at-else-branch-3.ensures ∙ sym whole, steps)
