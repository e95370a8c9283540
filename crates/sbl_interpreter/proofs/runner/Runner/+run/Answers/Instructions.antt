-- What the loop over instructions owes at those that run others.
use Rattle.std.proofs.Common.{◌≡◌, ◌≤◌, ◌<◌, true, false, sym, ap, ◌∙◌, arith, rules, Err}
use Rattle.sbl_program.specs.ProgramOf.{program_of}
use Rattle.sbl_semantics.specs.State.{State, Ending, Signals, after}
use Rattle.sbl_code.specs.Flow.{flow, alone, turns_of}
use Rattle.sbl_interpreter.specs.Inner.{inner_of}
use Rattle.sbl_code.specs.declared.instruction.Instruction.{Instruction}
use Rattle.sbl_interpreter.proofs.Flows.{ends_early, repeat_paid}
use Rattle.sbl_interpreter.proofs.Inners.{has_exits, inner_unpaid}
use Rattle.sbl_interpreter.proofs.runner.Runner.+run.Goals as goal

pub run_from-returns-in_err-run_turns-in-Repeat-clause-follows : goal.run_from-returns-in_err-run_turns-in-Repeat-clause-follows
run_from-returns-in_err-run_turns-in-Repeat-clause-follows g t c =
    let T = g.T.Tables.listed c.args.self.now.tables.now in
    let P = program_of T c.args.self.now.code.now in
    let levels = c.args.self.now.levels in
    let m = c.args.self.now.mode in
    let inv = c.loop-at.invariant in
    let s = c.loop-at.state in
    let slots = c.loop-at.slots in
    let at = c.loop-at.at.now in
    let D = λ (x : Instruction). alone (flow P levels T x) in
    let a = c.in-Repeat in
    let f = flow P levels T a.next.value m slots in
    let e : State → Ending = Signals false in
    let u = c.pay_all.new.state in
    let new = c.run_turns.new.state in
    let d = turns_of (D c.deref-in-Repeat.result.now) m u in
    let whole = sym inv.0 ∙ repeat_paid P levels T m slots s at a.cost a.body a.next c.deref-in-Repeat.result.now u a.is c.in_ok-pay_all-in-Repeat.ensures.leads c.deref-in-Repeat.ensures in
    let halt = c.in_err-run_turns-in-Repeat.field-0.0 in
    let r : c.from_residual-in_err-run_turns-in-Repeat.result ≡ Err halt = search rules in
    ends_early _ halt new _ d f e r whole c.in_err-run_turns-in-Repeat.ensures.leads

pub run_from-loop-at-preserved-in-Repeat-1 : goal.run_from-loop-at-preserved-in-Repeat-1
run_from-loop-at-preserved-in-Repeat-1 g t c =
    let T = g.T.Tables.listed c.args.self.now.tables.now in
    let P = program_of T c.args.self.now.code.now in
    let levels = c.args.self.now.levels in
    let m = c.args.self.now.mode in
    let inv = c.loop-at.invariant in
    let s = c.loop-at.state in
    let slots = c.loop-at.slots in
    let at = c.loop-at.at.now in
    let D = λ (x : Instruction). alone (flow P levels T x) in
    let a = c.in-Repeat in
    let f = flow P levels T a.next.value m slots in
    let e : State → Ending = Signals false in
    let u = c.pay_all.new.state in
    let new = c.run_turns.new.state in
    let d = turns_of (D c.deref-in-Repeat.result.now) m u in
    let whole = sym inv.0 ∙ repeat_paid P levels T m slots s at a.cost a.body a.next c.deref-in-Repeat.result.now u a.is c.in_ok-pay_all-in-Repeat.ensures.leads c.deref-in-Repeat.ensures in
    let h = whole ∙ ap (λ r. after r f e) c.in_ok-run_turns-in-Repeat.ensures.leads in
    let no_more : new.steps ≤ u.steps = c.in_ok-run_turns-in-Repeat.ensures.no_more in
    let fewer : u.steps < s.steps = c.in_ok-pay_all-in-Repeat.ensures.fewer in
    let steps : new.steps ≤ c.args.state.now.steps = omega (arith, no_more, fewer, inv.1) in
    (ap (λ x. flow P levels T x m slots new) c.deref-at-in-Repeat.ensures ∙ sym h, steps)

pub run_from-returns-in_err-pay_all-in-Nested-clause-follows : goal.run_from-returns-in_err-pay_all-in-Nested-clause-follows
run_from-returns-in_err-pay_all-in-Nested-clause-follows g t c =
    let T = g.T.Tables.listed c.args.self.now.tables.now in
    let P = program_of T c.args.self.now.code.now in
    let levels = c.args.self.now.levels in
    let m = c.args.self.now.mode in
    let inv = c.loop-at.invariant in
    let s = c.loop-at.state in
    let slots = c.loop-at.slots in
    let at = c.loop-at.at.now in
    let a = c.in-Nested in
    let halt = c.in_err-pay_all-in-Nested.field-0.0 in
    let r : c.from_residual-in_err-pay_all-in-Nested.result ≡ Err halt = search rules in
    inner_unpaid P levels T m slots s at _ halt c.pay_all-in-Nested.new.state _ a.cost a.next a.fail r inv.0 a.is c.in_err-pay_all-in-Nested.ensures.leads

pub run_from-returns-in_err-run_inner-in-Nested-clause-follows : goal.run_from-returns-in_err-run_inner-in-Nested-clause-follows
run_from-returns-in_err-run_inner-in-Nested-clause-follows g t c =
    let T = g.T.Tables.listed c.args.self.now.tables.now in
    let P = program_of T c.args.self.now.code.now in
    let levels = c.args.self.now.levels in
    let m = c.args.self.now.mode in
    let inv = c.loop-at.invariant in
    let s = c.loop-at.state in
    let slots = c.loop-at.slots in
    let at = c.loop-at.at.now in
    let a = c.in-Nested in
    let f = flow P levels T a.next.value m slots in
    let e = flow P levels T a.fail.value m slots in
    let u = c.pay_all-in-Nested.new.state in
    let new = c.run_inner.new.state in
    let d = inner_of P levels T at m u in
    let whole = sym inv.0 ∙ has_exits P levels T m slots s at a.cost a.next a.fail u a.is c.in_ok-pay_all-in-Nested.ensures.leads in
    let halt = c.in_err-run_inner-in-Nested.field-0.0 in
    let r : c.from_residual-in_err-run_inner-in-Nested.result ≡ Err halt = search rules in
    ends_early _ halt new _ d f e r whole c.in_err-run_inner-in-Nested.ensures.follows

pub run_from-loop-at-preserved-then-branch-5 : goal.run_from-loop-at-preserved-then-branch-5
run_from-loop-at-preserved-then-branch-5 g t c =
    let T = g.T.Tables.listed c.args.self.now.tables.now in
    let P = program_of T c.args.self.now.code.now in
    let levels = c.args.self.now.levels in
    let m = c.args.self.now.mode in
    let inv = c.loop-at.invariant in
    let s = c.loop-at.state in
    let slots = c.loop-at.slots in
    let at = c.loop-at.at.now in
    let a = c.in-Nested in
    let f = flow P levels T a.next.value m slots in
    let e = flow P levels T a.fail.value m slots in
    let u = c.pay_all-in-Nested.new.state in
    let new = c.run_inner.new.state in
    let d = inner_of P levels T at m u in
    let whole = sym inv.0 ∙ has_exits P levels T m slots s at a.cost a.next a.fail u a.is c.in_ok-pay_all-in-Nested.ensures.leads in
    let b : c.in_ok-run_inner-in-Nested.field-0 ≡ true = c.if-branch-5.true in
    let h = whole ∙ ap (λ r. after r f e) (c.in_ok-run_inner-in-Nested.ensures.follows ∙ ap (λ v. Signals v new) b) in
    let no_more : new.steps ≤ u.steps = c.in_ok-run_inner-in-Nested.ensures.no_more in
    let fewer : u.steps < s.steps = c.in_ok-pay_all-in-Nested.ensures.fewer in
    let steps : new.steps ≤ c.args.state.now.steps = omega (arith, no_more, fewer, inv.1) in
    (ap (λ x. flow P levels T x m slots new) c.deref-at-then-branch-5.ensures ∙ sym h, steps)

pub run_from-loop-at-preserved : goal.run_from-loop-at-preserved
run_from-loop-at-preserved g t c =
    let T = g.T.Tables.listed c.args.self.now.tables.now in
    let P = program_of T c.args.self.now.code.now in
    let levels = c.args.self.now.levels in
    let m = c.args.self.now.mode in
    let inv = c.loop-at.invariant in
    let s = c.loop-at.state in
    let slots = c.loop-at.slots in
    let at = c.loop-at.at.now in
    let a = c.in-Nested in
    let f = flow P levels T a.next.value m slots in
    let e = flow P levels T a.fail.value m slots in
    let u = c.pay_all-in-Nested.new.state in
    let new = c.run_inner.new.state in
    let d = inner_of P levels T at m u in
    let whole = sym inv.0 ∙ has_exits P levels T m slots s at a.cost a.next a.fail u a.is c.in_ok-pay_all-in-Nested.ensures.leads in
    let b : c.in_ok-run_inner-in-Nested.field-0 ≡ false = c.if-branch-5.false in
    let h = whole ∙ ap (λ r. after r f e) (c.in_ok-run_inner-in-Nested.ensures.follows ∙ ap (λ v. Signals v new) b) in
    let no_more : new.steps ≤ u.steps = c.in_ok-run_inner-in-Nested.ensures.no_more in
    let fewer : u.steps < s.steps = c.in_ok-pay_all-in-Nested.ensures.fewer in
    let steps : new.steps ≤ c.args.state.now.steps = omega (arith, no_more, fewer, inv.1) in
    (ap (λ x. flow P levels T x m slots new) c.deref-at-else-branch-5.ensures ∙ sym h, steps)
