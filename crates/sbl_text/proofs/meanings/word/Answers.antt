use Rattle.std.proofs.Common.{◌∙◌, sym, Some, None}
use Rattle.std.specs.Prelude.{encode_utf8_all}
use Rattle.std.specs.Str.{chars}
use Rattle.std.proofs.lemmas.Str.{encodes-chars}
use Rattle.sbl_text.proofs.Nexts.{same_word_or_name}
use Rattle.sbl_text.proofs.meanings.word.Goals as goal

pub returns-in-Some-clause-told : goal.returns-in-Some-clause-told
returns-in-Some-clause-told c = λ v. same_word_or_name c.args.text.now (encode_utf8_all (chars c.args.text.now)) (Some c.in-Some.word) (encodes-chars c.args.text.now c.utf8.text) (sym c.word_of.ensures ∙ c.in-Some.is)

pub returns-in-None-clause-told : goal.returns-in-None-clause-told
returns-in-None-clause-told c = λ v. same_word_or_name c.args.text.now (encode_utf8_all (chars c.args.text.now)) None (encodes-chars c.args.text.now c.utf8.text) (sym c.word_of.ensures ∙ c.in-None.is)
