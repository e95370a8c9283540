use Rattle.sbl_batch.proofs.OneFilter.{filtering-one}
use Rattle.sbl_batch.proofs.laws.filtering_is_one.Goals as goal

pub returns : goal.returns
returns c = filtering-one c.one_reading.ensures.script c.one_reading.ensures.fault c.one_reading.ensures.either
