-- The tree of tokens that are all supported.
use Rattle.std.specs.Prelude.{◌≡◌, List, None}
use Rattle.sbl_text.specs.Tokens.{PlacedToken}
use Rattle.sbl_ast.specs.Tree.{Item}
use Rattle.sbl_ast.specs.Texts.{script}
use Rattle.sbl_parser.specs.Reading.{IsReadAs}
use Rattle.sbl_script.specs.Reading.{first_left_out, lexemes}

abbrev pub IsTreeOf : List PlacedToken → List Item → Type 0
IsTreeOf ts items = (first_left_out ts ≡ None) × IsReadAs script (lexemes ts) items

-- one of the tokens is not supported, or they form no tree
abbrev pub HaveNoTree : List PlacedToken → Type 0
HaveNoTree ts = (items : List Item) → first_left_out ts ≡ None → IsReadAs script (lexemes ts) items → ⊥
