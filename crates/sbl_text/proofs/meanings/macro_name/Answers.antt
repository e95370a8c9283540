use Rattle.std.proofs.Common.{ap, sym}
use Rattle.std.proofs.lemmas.Str.{encodes-chars}
use Rattle.sbl_token.specs.Lexemes as lexemes
use Rattle.sbl_text.proofs.meanings.macro_name.Goals as goal

pub returns-clause-told : goal.returns-clause-told
returns-clause-told c = λ s v. ap lexemes.macro_name (sym (encodes-chars c.args.text.now c.utf8.text))
