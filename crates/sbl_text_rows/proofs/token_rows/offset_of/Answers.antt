use Rattle.sbl_text.proofs.Texts.{length_before, rest_within}
use Rattle.sbl_text_rows.proofs.token_rows.offset_of.Goals as goal

pub overflow_sub-result : goal.overflow_sub-result
overflow_sub-result c = rest_within c.args.text.now c.args.rest.now c.requires.0 c.utf8.text c.utf8.rest c.requires.1

pub returns : goal.returns
returns c = λ x is. length_before c.args.text.now c.args.rest.now x c.utf8.text c.utf8.rest is
