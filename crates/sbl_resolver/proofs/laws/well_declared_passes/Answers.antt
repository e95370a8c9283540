use Rattle.sbl_resolver.proofs.FirstFault as first
use Rattle.sbl_resolver.proofs.laws.well_declared_passes.Goals as goal

pub returns : goal.returns
returns c = first.well_declared_passes
