-- The texts that are parsed: a whole script, or a replacement for a part of one.
use Rattle.std.specs.Prelude.{ℕ, List, [], ◌∷◌}
use Rattle.sbl_token.specs.Lexemes.{Lexeme}
use Rattle.sbl_ast.specs.Symbols as t
use Rattle.sbl_ast.specs.Tree.{Item, Command, Others, Starter, Groups, among_, Argument, Term}
use Rattle.sbl_ast.specs.Places.{AtDepth, placed_command, placed_others, placed_terms, places, tokens}

-- a script; the body of a routine; the terms of a grouping; an among at a nesting depth
pub data Text : Type 0 where
  script body terms : Text
  among : ℕ → Text

-- the tree of each text
abbrev pub TreeOf : Text → Type 0
TreeOf script = List Item
TreeOf body = Command × Others
TreeOf terms = Argument × List Term
TreeOf (among d) = Starter × Groups

-- the tokens of the tree with their nesting depths
abbrev pub places_in : (t : Text) → TreeOf t → List AtDepth
places_in script is = places is
places_in body b = placed_command b.0 1 (placed_others b.1 1 [])
places_in terms x = (t.argument x.0, 0) ∷ placed_terms x.1 []
places_in (among d) a = placed_command (among_ a.0 a.1) d []

abbrev pub tokens_of : (t : Text) → TreeOf t → List Lexeme
tokens_of t x = tokens (places_in t x)
