use Rattle.std.proofs.Common.{length, sym, ap, ◌∙◌}
use Rattle.sbl_run_state.proofs.SlotValues.{length_values}
use Rattle.sbl_run_state.proofs.slots.Slots.count.Goals as goal

pub returns : goal.returns
returns g c =
    let s = c.self.inside in
    sym (length_values s.round s.count s.slots.items) ∙ ap length c.self.view_is
