use Rattle.sbl_resolver.proofs.Listed as listed
use Rattle.sbl_resolver.proofs.laws.each_fault_is_listed.Goals as goal

pub returns : goal.returns
returns c = listed.each_fault_is_listed
