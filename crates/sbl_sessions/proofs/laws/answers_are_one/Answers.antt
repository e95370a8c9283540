use Rattle.sbl_sessions.proofs.OneAnswer.{answers-one}
use Rattle.sbl_sessions.proofs.laws.answers_are_one.Goals as goal

pub returns : goal.returns
returns c = answers-one c.one_verdict.ensures
