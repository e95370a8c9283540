use Rattle.sbl_text.proofs.Texts.{rest_within, length_before}
use Rattle.sbl_text.proofs.prefix.place_of.Goals as goal

pub overflow_sub-result : goal.overflow_sub-result
overflow_sub-result c = rest_within c.args.source.now c.args.rest.now c.requires.0 c.utf8.source c.utf8.rest c.requires.1

pub returns-clause-place : goal.returns-clause-place
returns-clause-place c = λ x is. length_before c.args.source.now c.args.rest.now x c.utf8.source c.utf8.rest is
