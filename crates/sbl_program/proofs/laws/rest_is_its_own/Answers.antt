use Rattle.sbl_program.proofs.Fits.{rest_after}
use Rattle.sbl_program.proofs.laws.rest_is_its_own.Goals as goal

pub returns : goal.returns
returns c = rest_after
