use Rattle.sbl_machine.proofs.DiffersAgree as differing
use Rattle.sbl_machine.proofs.laws.differing_stay.Goals as goal

pub returns : goal.returns
returns c = differing.differing_stay c.well_declared_passes.ensures
