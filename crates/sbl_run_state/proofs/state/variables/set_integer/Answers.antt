use Rattle.std.proofs.Common.{pos, rules}
use Rattle.sbl_run_state.specs.Slots.{value_or}
use Rattle.sbl_run_state.proofs.SlotValues.{set_there_as}
use Rattle.sbl_run_state.proofs.state.variables.set_integer.Goals as goal

pub returns : goal.returns
returns c = set_there_as c.set.result (value_or (pos 0)) c.args.integers.now c.set.new.self c.args.number c.args.value _ c.set.ensures (search rules)
