use Rattle.sbl_machine.proofs.DiffersAgree as differing
use Rattle.sbl_machine.proofs.DifferingThere.{differing_are_there}
use Rattle.sbl_machine.proofs.laws.differing_agree.Goals as goal

pub returns-clause-agree : goal.returns-clause-agree
returns-clause-agree c = differing.differing_agree c.well_declared_passes.ensures

pub returns-clause-there : goal.returns-clause-there
returns-clause-there c = differing_are_there
