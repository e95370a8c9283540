use Rattle.sbl_source_map.proofs.ListedFaults.{first_is_fault}
use Rattle.sbl_source_map.proofs.laws.first_fault_is_listed.Goals as goal

pub returns : goal.returns
returns c = first_is_fault c.fault_is_first_of_all.ensures
