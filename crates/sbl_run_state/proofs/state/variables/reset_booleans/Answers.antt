use Rattle.std.proofs.Common.{false, None, map, ap, ◌∙◌}
use Rattle.sbl_run_state.specs.Slots.{value_or}
use Rattle.sbl_run_state.proofs.SlotValues.{first_values}
use Rattle.sbl_run_state.proofs.state.variables.reset_booleans.Goals as goal

pub returns : goal.returns
returns c = ap (map (value_or false)) c.reset.ensures ∙ first_values (value_or false) c.args.count None
