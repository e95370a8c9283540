use Rattle.std.proofs.Common.{false, Some}
use Rattle.sbl_run_state.specs.Slots.{value_or}
use Rattle.sbl_run_state.proofs.SlotValues.{set_there}
use Rattle.sbl_run_state.proofs.state.variables.set_boolean.Goals as goal

pub returns : goal.returns
returns c = set_there c.set.result (value_or false) c.args.booleans.now c.set.new.self c.args.number (Some c.args.value) c.set.ensures
