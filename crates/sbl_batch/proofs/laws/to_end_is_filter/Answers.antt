use Rattle.sbl_batch.proofs.ToEndFacts.{to_end-filter}
use Rattle.sbl_batch.proofs.laws.to_end_is_filter.Goals as goal

pub returns : goal.returns
returns c = to_end-filter
