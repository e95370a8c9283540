use Rattle.sbl_print.proofs.Spaced.{items_spaced}
use Rattle.sbl_print.proofs.laws.canonical_is_spaced.Goals as goal

pub returns : goal.returns
returns c = items_spaced
