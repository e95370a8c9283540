use Rattle.std.proofs.Common.{rules, arith, None, sym, ap, ◌∙◌, slice_index_or}
use Rattle.sbl_run_state.proofs.SlotValues.{past_count, past_slots, value_of_slot, set_slot, other_slot}
use Rattle.sbl_run_state.proofs.slots.Slots.get.Goals as goal

pub returns-then-number-self : goal.returns-then-number-self
returns-then-number-self g c =
    let s = c.self.inside in
    sym (past_count s.round s.count c.args.number s.slots.items (omega arith)) ∙ ap (λ vs. slice_index_or vs c.args.number None) c.self.view_is

pub returns-then-number-len : goal.returns-then-number-len
returns-then-number-len g c =
    let s = c.self.inside in
    sym (past_slots s.round s.count c.args.number s.slots.items (omega arith)) ∙ ap (λ vs. slice_index_or vs c.args.number None) c.self.view_is

pub returns-then-slot-self : goal.returns-then-slot-self
returns-then-slot-self g c =
    let s = c.self.inside in
    sym (set_slot s.round c.index-slot.result.now c.if-slot-self.true)
    ∙ sym (value_of_slot s.round s.count c.args.number s.slots.items c.index-slot.result.now (omega arith) (omega arith) (search rules)) ∙ ap (λ vs. slice_index_or vs c.args.number None) c.self.view_is

pub returns-else-slot-self : goal.returns-else-slot-self
returns-else-slot-self g c =
    let s = c.self.inside in
    sym (other_slot s.round c.index-slot.result.now c.if-slot-self.false)
    ∙ sym (value_of_slot s.round s.count c.args.number s.slots.items c.index-slot.result.now (omega arith) (omega arith) (search rules)) ∙ ap (λ vs. slice_index_or vs c.args.number None) c.self.view_is
