use Rattle.sbl_batch.proofs.OneComparison.{comparing-one}
use Rattle.sbl_batch.proofs.laws.comparing_is_one.Goals as goal

pub returns : goal.returns
returns c = comparing-one c.one_reading.ensures.script
