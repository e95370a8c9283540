use Rattle.sbl_machine.proofs.Groupings.{groupings_are, groupings_have}
use Rattle.sbl_machine.proofs.laws.groupings_are_their_terms.Goals as goal

pub returns-clause-have : goal.returns-clause-have
returns-clause-have c = groupings_have (groupings_are c.well_declared_passes.ensures)

pub returns-clause-computed : goal.returns-clause-computed
returns-clause-computed c = groupings_are c.well_declared_passes.ensures
