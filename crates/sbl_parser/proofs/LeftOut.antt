-- Which tokens occur in no tree.
use Rattle.std.proofs.Common.{◌≡◌, Bool, true, false, refl, sym, ap, ◌∙◌}
use Rattle.sbl_token.specs.Lexemes.{word, sign, lexeme_of}
use Rattle.sbl_token.specs.declared.words.Word.{Word}
use Rattle.sbl_token.specs.declared.words.Word.TheVariants as words
use Rattle.sbl_token.specs.declared.signs.Sign.{Sign}
use Rattle.sbl_token.specs.declared.signs.Sign.TheVariants as signs
use Rattle.sbl_token.specs.declared.token.Kind.{Kind}
use Rattle.sbl_token.specs.declared.token.Kind.TheVariants as kinds
use Rattle.sbl_token.specs.declared.token.Token.{Token}
use Rattle.sbl_ast.specs.Terminal.{word_terminal, sign_terminal}
use Rattle.sbl_parser.specs.declared.role.Role.{Role}
use Rattle.sbl_parser.specs.declared.role.Role.TheVariants as roles
use Rattle.sbl_parser.specs.First.{kind_role}
use Rattle.sbl_parser.specs.Profile.{is_left_out}
use Rattle.sbl_parser.specs.Roles.{role_as}

abbrev is_other : Role → Bool
is_other roles.Other = true
is_other _ = false

word_left_out : (w : Word) → is_left_out (word w) ≡ is_other (role_as (word_terminal w))
word_left_out words.Get = refl
word_left_out _ = refl

sign_left_out : (s : Sign) → is_left_out (sign s) ≡ is_other (role_as (sign_terminal s))
sign_left_out signs.Question = refl
sign_left_out _ = refl

left_out : (x : Token) → is_left_out (lexeme_of x) ≡ is_other (kind_role x.kind)
left_out x = go x.kind refl where
  go : (k : Kind) → x.kind ≡ k → is_left_out (lexeme_of x) ≡ is_other (kind_role x.kind)
  go (kinds.Word w) e = rw e (word_left_out w)
  go (kinds.Sign s) e = rw e (sign_left_out s)
  go kinds.Name e = rw e refl
  go _ e = rw e refl

not_other : (r : Role) → (r ≡ roles.Other → ⊥) → is_other r ≡ false
not_other roles.Other n = absurd (n refl)
not_other _ n = refl

pub left_out_if_other : (x : Token) (r : Role) → r ≡ kind_role x.kind → r ≡ roles.Other → true ≡ is_left_out (lexeme_of x)
left_out_if_other x r e is = sym (left_out x ∙ ap (λ (q : Role). is_other q) (sym e ∙ is))

pub kept_if_not_other : (x : Token) (r : Role) → r ≡ kind_role x.kind → (r ≡ roles.Other → ⊥) → false ≡ is_left_out (lexeme_of x)
kept_if_not_other x r e n = sym (left_out x ∙ ap (λ (q : Role). is_other q) (sym e) ∙ not_other r n)
