use Rattle.std.proofs.Common.{None, map, ap, ◌∙◌}
use Rattle.sbl_run_state.specs.Slots.{text_or_empty}
use Rattle.sbl_run_state.proofs.SlotValues.{first_values}
use Rattle.sbl_run_state.proofs.state.variables.reset_strings.Goals as goal

pub returns : goal.returns
returns c = ap (map text_or_empty) c.reset.ensures ∙ first_values text_or_empty c.args.count None
