use Rattle.sbl_source_map.proofs.AtTokens as at
use Rattle.sbl_source_map.proofs.laws.faults_are_at_tokens.Goals as goal

pub returns-clause-fault : goal.returns-clause-fault
returns-clause-fault c = at.fault_at_is_fault c.fault_is_first.ensures c.well_declared_passes.ensures

pub returns-clause-token : goal.returns-clause-token
returns-clause-token c = at.fault_is_at c.fault_is_first.ensures
