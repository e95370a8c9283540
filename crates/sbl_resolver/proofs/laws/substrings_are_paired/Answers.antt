use Rattle.sbl_resolver.proofs.Resolving as resolving
use Rattle.sbl_resolver.proofs.laws.substrings_are_paired.Goals as goal

pub returns : goal.returns
returns c = resolving.substrings_are_paired
