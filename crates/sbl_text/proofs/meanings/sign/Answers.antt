use Rattle.std.proofs.Common.{◌∙◌, sym, refl}
use Rattle.std.specs.Str.{chars}
use Rattle.sbl_text.proofs.Written.{sign_is, sign_found_as}
use Rattle.sbl_text.proofs.meanings.sign.Goals as goal

pub returns-in-Some-clause-told : goal.returns-in-Some-clause-told
returns-in-Some-clause-told c = λ v. (c.in-Some.sign, sign_is (chars c.args.text.now) c.in-Some.sign (sym c.sign_of.ensures ∙ c.in-Some.is), refl)

pub returns-in-None-clause-told : goal.returns-in-None-clause-told
returns-in-None-clause-told c = absurd (let k = sign_found_as (chars c.args.text.now) c.requires.0 c.requires.1 in let n = sym c.sign_of.ensures ∙ c.in-None.is in cc)
