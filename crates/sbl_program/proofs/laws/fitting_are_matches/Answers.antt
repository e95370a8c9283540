use Rattle.sbl_program.proofs.Exact.{fits_match, match_fits}
use Rattle.sbl_program.proofs.laws.fitting_are_matches.Goals as goal

pub returns : goal.returns
returns c strings x differ i = (fits_match strings x i, match_fits strings x i differ)
