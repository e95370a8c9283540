use Rattle.sbl_program.proofs.Exact.{fits_fall}
use Rattle.sbl_program.proofs.laws.fitting_fall.Goals as goal

pub returns : goal.returns
returns c = fits_fall
