use Rattle.sbl_machine.proofs.NamesStand as stand
use Rattle.sbl_machine.proofs.laws.names_stand.Goals as goal

pub returns : goal.returns
returns c = stand.names_stand c.names_resolve.ensures c.well_declared_passes.ensures
