use Rattle.sbl_machine.proofs.EditsAgree as edits
use Rattle.sbl_machine.proofs.laws.untouched_stay.Goals as goal

pub returns : goal.returns
returns c = edits.untouched_stay c.well_declared_passes.ensures
