use Rattle.sbl_batch.proofs.LawFacts.{parts}
use Rattle.sbl_batch.proofs.laws.parts_make_whole.Goals as goal

pub returns : goal.returns
returns c = parts
