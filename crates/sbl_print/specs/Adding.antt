-- What is appended to a line that has a token.
use Rattle.std.specs.Prelude.{◌≡◌, ℕ, List, [], ◌∷◌, ◌++◌}
use Rattle.std.specs.List.{flat_map, join_by}
use Rattle.sbl_token.specs.Lexemes.{Lexeme}
use Rattle.sbl_text.specs.SpacedTokens.{lexeme_text}
use Rattle.sbl_ast.specs.Spelled.{spelled_entries, spelled_expression, spelled_groups}
use Rattle.sbl_ast.specs.Terminal.{Terminal, lexeme_as}
use Rattle.sbl_ast.specs.Terminal as t
use Rattle.sbl_ast.specs.Tree as trees
use Rattle.sbl_ast.specs.inside.ViewParts.{view_groups}
use Rattle.sbl_ast.specs.declared.tree.Group.{Group}

-- what is between two tokens of a line
abbrev pub space : List ℕ
space = 32 ∷ []

-- the text of a token with this role
abbrev pub token_text : Terminal → List ℕ
token_text x = lexeme_text (lexeme_as x)

-- tokens, each with a space before it
unfoldable pub more : List Terminal → List ℕ
more ts = flat_map (λ x. space ++ token_text x) ts

-- the appended text is that of the tokens that f puts before others
abbrev pub Adds : List ℕ → List ℕ → (List Terminal → List Terminal) → Type 0
Adds old new f = (rest : List Terminal) → new ++ more rest ≡ old ++ more (f rest)

-- `$ X`, the sign x and an expression
abbrev pub spelled_dollar : List ℕ → Terminal → trees.Expression → List Terminal → List Terminal
spelled_dollar name x number rest = t.dollar ∷ t.name name ∷ x ∷ spelled_expression number rest

-- the appended text is that of groups: with any strings after them, it is that of both
abbrev pub AddsGroups : List ℕ → List ℕ → List Group → Type 0
AddsGroups old new groups =
    (es : List trees.Entry) (rest : List Terminal) → new ++ more (spelled_entries es rest) ≡ old ++ more (spelled_groups (view_groups groups es) rest)

-- the appended text is that of these tokens at the start of a line
abbrev pub Begins : List ℕ → List ℕ → List Terminal → Type 0
Begins old new ts = new ≡ old ++ join_by token_text space ts

-- the same, without roles
abbrev pub BeginsLine : List ℕ → List ℕ → List Lexeme → Type 0
BeginsLine old new ls = new ≡ old ++ join_by lexeme_text space ls
