use Rattle.std.proofs.Common.{pos, None, map, ap, ◌∙◌}
use Rattle.sbl_run_state.specs.Slots.{value_or}
use Rattle.sbl_run_state.proofs.SlotValues.{first_values}
use Rattle.sbl_run_state.proofs.state.variables.reset_integers.Goals as goal

pub returns : goal.returns
returns c = ap (map (value_or (pos 0))) c.reset.ensures ∙ first_values (value_or (pos 0)) c.args.count None
