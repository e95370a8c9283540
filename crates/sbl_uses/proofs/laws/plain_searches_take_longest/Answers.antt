use Rattle.sbl_uses.proofs.PlainSearches.{plain_takes_longest, plain_takes_one}
use Rattle.sbl_uses.proofs.laws.plain_searches_take_longest.Goals as goal

pub returns-clause-longest : goal.returns-clause-longest
returns-clause-longest c = plain_takes_longest

pub returns-clause-one : goal.returns-clause-one
returns-clause-one c = plain_takes_one
