use Rattle.sbl_rows.proofs.SetFacts.{word_removed}
use Rattle.sbl_rows.proofs.counted_words.take_word.Goals as goal

pub returns-in-Some-Stem-clause-others : goal.returns-in-Some-Stem-clause-others
returns-in-Some-Stem-clause-others c = λ i q. word_removed c.args.outcomes.now c.remove.new.self c.args.word.now q c.remove.ensures.updates i

pub returns-in_default-clause-others : goal.returns-in_default-clause-others
returns-in_default-clause-others c = λ i q. word_removed c.args.outcomes.now c.remove.new.self c.args.word.now q c.remove.ensures.updates i
