use Rattle.sbl_resolver.proofs.Resolving as resolving
use Rattle.sbl_resolver.proofs.laws.names_resolve.Goals as goal

pub returns : goal.returns
returns c = resolving.names_resolve
