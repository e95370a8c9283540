use Rattle.std.proofs.Common.{arith, None, refl, sym, ap, ◌∙◌}
use Rattle.std.specs.Prelude.{slice_set}
use Rattle.sbl_run_state.proofs.SlotValues.{set_up_to, unset_now, unset_past}
use Rattle.sbl_run_state.proofs.slots.Slots.unset.Goals as goal

pub invariant_of-self : goal.invariant_of-self
invariant_of-self g c =
    let s = c.self.inside in
    (c.self.invariant.0, set_up_to s.round c.args.number s.slots.items _ c.self.invariant.1 (omega arith))

pub returns-then-number-len : goal.returns-then-number-len
returns-then-number-len g c =
    let s = c.self.inside in
    unset_now s.round s.count c.args.number s.slots.items _ (omega arith) c.self.invariant.0 refl ∙ ap (λ vs. slice_set vs c.args.number None) c.self.view_is

pub returns-else-number-len : goal.returns-else-number-len
returns-else-number-len g c =
    let s = c.self.inside in
    sym c.self.view_is ∙ sym (unset_past s.round s.count c.args.number s.slots.items (omega arith)) ∙ ap (λ vs. slice_set vs c.args.number None) c.self.view_is
