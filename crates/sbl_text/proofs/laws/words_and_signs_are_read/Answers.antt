use Rattle.sbl_text.proofs.Written.{word_read, signs_differ}
use Rattle.sbl_text.proofs.laws.words_and_signs_are_read.Goals as goal

pub returns-clause-words : goal.returns-clause-words
returns-clause-words c = word_read

pub returns-clause-signs : goal.returns-clause-signs
returns-clause-signs c = signs_differ
