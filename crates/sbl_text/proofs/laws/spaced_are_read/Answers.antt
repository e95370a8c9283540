use Rattle.sbl_text.proofs.Spaced.{spaced_read, tokens_said}
use Rattle.sbl_text.proofs.laws.spaced_are_read.Goals as goal

pub returns-clause-read : goal.returns-clause-read
returns-clause-read c = spaced_read

pub returns-clause-said : goal.returns-clause-said
returns-clause-said c = tokens_said
