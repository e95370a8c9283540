-- Laws of the parser.
use Rattle.std.specs.Prelude.{◌≡◌, List}
use Rattle.sbl_token.specs.Lexemes.{Lexeme}
use Rattle.sbl_ast.specs.Texts.{Text, TreeOf, tokens_of}
use Rattle.sbl_parser.specs.Reading.{IsReadAs, IsSyntaxAt, IsTooDeepAt, IsOutOfProfileAt}

-- two trees of a text with the same tokens are equal
abbrev pub TreesAreOne : Type 0
TreesAreOne = (w : Text) (t u : TreeOf w) → tokens_of w t ≡ tokens_of w u → t ≡ u

-- the faults of tokens
pub data Wrong : Type 0 where
  syntax too_deep out_of_profile : Wrong

-- the tokens have this fault, and the rest begins where it is
abbrev pub IsWrongAt : Text → Wrong → List Lexeme → List Lexeme → Type 0
IsWrongAt t syntax all rest = IsSyntaxAt t all rest
IsWrongAt t too_deep all rest = IsTooDeepAt t all rest
IsWrongAt t out_of_profile all rest = IsOutOfProfileAt t all rest

-- tokens have at most one fault, at one position
abbrev pub FaultIsOne : Type 0
FaultIsOne = (t : Text) (all r s : List Lexeme) (v w : Wrong) → IsWrongAt t v all r → IsWrongAt t w all s → (v ≡ w) × (r ≡ s)

-- the tokens of a tree that is nowhere too deep have no fault
abbrev pub TreeOrFault : Type 0
TreeOrFault = (t : Text) (all rest : List Lexeme) (tree : TreeOf t) (w : Wrong) → IsReadAs t all tree → IsWrongAt t w all rest → ⊥
