use Rattle.sbl_machine.proofs.EditsAgree as edits
use Rattle.sbl_machine.proofs.laws.unmet_stay.Goals as goal

pub returns : goal.returns
returns c = edits.unmet_stay c.well_declared_passes.ensures
