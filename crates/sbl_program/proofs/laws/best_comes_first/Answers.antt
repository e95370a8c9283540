use Rattle.sbl_program.proofs.Fits.{best_is_first}
use Rattle.sbl_program.proofs.laws.best_comes_first.Goals as goal

pub returns : goal.returns
returns c = best_is_first
