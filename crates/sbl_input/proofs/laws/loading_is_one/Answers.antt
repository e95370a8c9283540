use Rattle.sbl_input.proofs.OneLoading.{loading-one, rest-one}
use Rattle.sbl_input.proofs.laws.loading_is_one.Goals as goal

pub returns-clause-loading : goal.returns-clause-loading
returns-clause-loading c = loading-one c.one_reading.ensures.script c.one_reading.ensures.fault c.one_reading.ensures.either

pub returns-clause-rest : goal.returns-clause-rest
returns-clause-rest c = rest-one
