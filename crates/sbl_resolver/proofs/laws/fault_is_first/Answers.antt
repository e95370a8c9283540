use Rattle.sbl_resolver.proofs.FirstFault as first
use Rattle.sbl_resolver.proofs.laws.fault_is_first.Goals as goal

pub returns : goal.returns
returns c = first.fault_is_first
