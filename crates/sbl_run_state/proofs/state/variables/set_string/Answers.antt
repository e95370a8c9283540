use Rattle.std.proofs.Common.{Some}
use Rattle.sbl_run_state.specs.Slots.{text_or_empty}
use Rattle.sbl_run_state.proofs.SlotValues.{set_there}
use Rattle.sbl_run_state.proofs.state.variables.set_string.Goals as goal

pub returns : goal.returns
returns c = set_there c.set.result text_or_empty c.args.strings.now c.set.new.self c.args.number (Some c.args.string) c.set.ensures
