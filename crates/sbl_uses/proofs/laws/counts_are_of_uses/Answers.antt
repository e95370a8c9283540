use Rattle.sbl_uses.proofs.UserFacts.{numbers_of_rows}
use Rattle.sbl_uses.proofs.laws.counts_are_of_uses.Goals as goal

pub returns : goal.returns
returns c = numbers_of_rows
