use Rattle.sbl_machine.proofs.BuiltFrom.{affected_closed}
use Rattle.sbl_machine.proofs.laws.affected_is_closed.Goals as goal

pub returns : goal.returns
returns c = affected_closed c.well_declared_passes.ensures
