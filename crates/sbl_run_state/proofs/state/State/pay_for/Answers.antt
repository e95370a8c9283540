use Rattle.std.proofs.Common.{◌≡◌, ◌-◌, ◌<◌, ◌≤◌, true, sym, ap, ◌∙◌, arith}
use Rattle.sbl_semantics.specs.declared.fault.RunFault.TheVariants.{Steps}
use Rattle.sbl_semantics.specs.State.{State, Signals, Stops}
use Rattle.sbl_program.proofs.ChainRuns.{pays_all, pays_short}
use Rattle.sbl_run_state.proofs.state.State.pay_for.Goals as goal

pub returns-then-count-self-clause-leads : goal.returns-then-count-self-clause-leads
returns-then-count-self-clause-leads c =
    let s = c.args.self.now in
    let e : c.self.inside.steps ≡ s.steps = ap (λ (t : State). t.steps) c.self.view_is in
    let l : s.steps < c.args.count = omega (arith, e) in
    pays_short c.args.count s.steps s l ∙ ap (Stops Steps) (sym c.use_all_steps.ensures)

pub returns-clause-leads : goal.returns-clause-leads
returns-clause-leads c =
    let s = c.args.self.now in
    let e : c.self.inside.steps ≡ s.steps = ap (λ (t : State). t.steps) c.self.view_is in
    let l : c.args.count ≤ s.steps = omega (arith, e) in
    pays_all c.args.count s.steps s l ∙ ap (λ (t : State). Signals true (record t { steps = t.steps - c.args.count })) (sym c.self.view_is)
