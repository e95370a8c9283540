use Rattle.sbl_compiler.proofs.OwnMade.{own_is_made}
use Rattle.sbl_compiler.proofs.laws.own_is_made.Goals as goal

pub returns : goal.returns
returns c = own_is_made
