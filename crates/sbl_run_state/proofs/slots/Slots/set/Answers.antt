use Rattle.std.proofs.Common.{rules, arith, ◌≡◌, Some, refl, sym, ap, ◌∙◌, length}
use Rattle.std.specs.Prelude.{slice_set}
use Rattle.sbl_run_state.proofs.SlotValues.{length_values, set_beyond, set_now, set_up_to}
use Rattle.sbl_run_state.proofs.slots.Slots.set.Goals as goal

pub invariant_of-self : goal.invariant_of-self
invariant_of-self g c = (c.self.invariant.0, c.ensure_slot.ensures.up_to c.self.inside.round c.self.invariant.1)

pub invariant_of-self-then-number-self : goal.invariant_of-self-then-number-self
invariant_of-self-then-number-self g c =
    let s = c.self.inside in
    (c.self.invariant.0, set_up_to s.round c.args.number c.ensure_slot.new.slots.items _ (c.ensure_slot.ensures.up_to s.round c.self.invariant.1) (omega arith))

pub returns-in_ok-ensure_slot : goal.returns-in_ok-ensure_slot
returns-in_ok-ensure_slot g c =
    let s = c.self.inside in
    set_now s.round s.count c.args.number c.ensure_slot.new.slots.items _ (search rules) refl
    ∙ ap (λ vs. slice_set vs c.args.number (Some c.args.value)) (c.ensure_slot.ensures.same s.round s.count c.self.invariant.0 ∙ c.self.view_is)

pub returns-else-number-self : goal.returns-else-number-self
returns-else-number-self g c =
    let s = c.self.inside in
    let l : length c.args.self.now ≡ s.count = sym (ap length c.self.view_is) ∙ length_values s.round s.count s.slots.items in
    sym (set_beyond c.args.self.now c.args.number (Some c.args.value) (omega (arith, l)))
