use Rattle.sbl_bench.proofs.OneVerdict.{facts_of, verdict_is_one}
use Rattle.sbl_bench.proofs.laws.one_verdict.Goals as goal

pub returns : goal.returns
returns c = verdict_is_one (facts_of c.one_edit.ensures.script c.one_edit.ensures.fault c.one_edit.ensures.either c.one_reading.ensures.script c.one_reading.ensures.fault c.one_reading.ensures.either)
