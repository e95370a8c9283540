-- The canonical text as tokens that are separated by white space.
use Rattle.std.specs.Prelude.{◌≡◌, ℕ, true, List}
use Rattle.sbl_token.specs.Lexemes.{Lexeme}
use Rattle.sbl_text.specs.SpacedTokens as texts
use Rattle.sbl_text.specs.SpacedTokens.{SpacedToken, are_white, spaced_text}
use Rattle.sbl_ast.specs.Tree.{Item}
use Rattle.sbl_ast.specs.Places.{lexemes_of}
use Rattle.sbl_print.specs.Canonical.{canonical}

-- the text consists of these tokens, each followed by one white space character
pub record IsSpaced (ls : List Lexeme) (text : List ℕ) : Type 0 where
  pub spaced : List SpacedToken
  pub tokens : texts.lexemes_of spaced ≡ ls
  pub white : are_white spaced ≡ true
  pub text_is : spaced_text spaced ≡ text

-- the canonical text of items consists of the tokens of the items, each followed by one white space character
abbrev pub CanonicalIsSpaced : Type 0
CanonicalIsSpaced = (items : List Item) → IsSpaced (lexemes_of items) (canonical items)
