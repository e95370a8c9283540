-- The value of the first token.
use Rattle.std.specs.Prelude.{ℕ, List, [], ◌∷◌}
use Rattle.sbl_token.specs.declared.token.Kind.{Kind}
use Rattle.sbl_token.specs.declared.token.Kind.TheVariants as kinds
use Rattle.sbl_token.specs.declared.token.Value.{Value}
use Rattle.sbl_token.specs.declared.token.Token.{Token}
use Rattle.sbl_token.specs.Lexemes.{number_in, spelling_in, characters_in, inserts_in}
use Rattle.sbl_parser.specs.declared.role.Role.{Role}
use Rattle.sbl_parser.specs.declared.role.Role.TheVariants as roles
use Rattle.sbl_ast.specs.Tree.{QuotedText}
use Rattle.sbl_ast.specs.Terminal.{word_terminal, sign_terminal}
use Rattle.sbl_parser.specs.Roles.{role_as}

abbrev pub kind_role : Kind → Role
kind_role (kinds.Word w) = role_as (word_terminal w)
kind_role (kinds.Sign s) = role_as (sign_terminal s)
kind_role kinds.Name = roles.Name
kind_role kinds.Number = roles.Number
kind_role kinds.Literal = roles.Literal
kind_role kinds.Inserts = roles.Inserts
kind_role kinds.MacroName = roles.MacroName

abbrev pub first_text : List Token → List ℕ
first_text [] = []
first_text (t ∷ ts) = t.text.now

abbrev pub first_number : List Token → ℕ
first_number [] = 0
first_number (t ∷ ts) = number_in t.value

abbrev pub first_inserts : List Token → ℕ × ℕ
first_inserts [] = (0, 0)
first_inserts (t ∷ ts) = inserts_in t.value

abbrev pub quoted_in : Value → QuotedText
quoted_in v = record { spelling = spelling_in v; value = characters_in v }

abbrev pub first_literal : List Token → QuotedText
first_literal [] = record { spelling = []; value = [] }
first_literal (t ∷ ts) = quoted_in t.value
