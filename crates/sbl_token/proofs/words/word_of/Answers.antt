use Rattle.std.proofs.Common.{rules, ◌∙◌}
use Rattle.sbl_token.specs.Words.{word_of, words}
use Rattle.sbl_token.proofs.Tables.{lookup_is}
use Rattle.sbl_token.proofs.words.word_of.Goals as goal

pub returns : goal.returns
unfolding word_of
returns c = c.lookup.ensures ∙ lookup_is words c.args.text.now (search rules)
