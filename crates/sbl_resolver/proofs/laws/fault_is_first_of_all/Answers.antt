use Rattle.sbl_resolver.proofs.Listed as listed
use Rattle.sbl_resolver.proofs.laws.fault_is_first_of_all.Goals as goal

pub returns : goal.returns
returns c = listed.fault_is_first_of_all
