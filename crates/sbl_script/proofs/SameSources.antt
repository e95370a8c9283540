-- Two scripts with one canonical text have the same items.
use Rattle.std.proofs.Common.{◌≡◌, ℕ, List, subst}
use Rattle.std.specs.Str.{chars}
use Rattle.sbl_text.specs.Directives.{start}
use Rattle.sbl_text.specs.Laws.{TokensAreOne}
use Rattle.sbl_text.specs.SpacedTokens.{after_all, AreSaid}
use Rattle.sbl_text.specs.Tokens.{AreTokensFrom, MayEnd}
use Rattle.sbl_ast.specs.Tree.{Item}
use Rattle.sbl_ast.specs.Places.{lexemes_of}
use Rattle.sbl_print.specs.Canonical.{canonical}
use Rattle.sbl_script.proofs.Printed.{Facts, tokens_back}

-- what is known of the tokens of items
pub record Says (items : List Item) : Type 0 where
  pub said : AreSaid start (lexemes_of items)
  pub ends : MayEnd (after_all start (lexemes_of items))

pub items_are_one : Facts → TokensAreOne → ((t u : List Item) → lexemes_of t ≡ lexemes_of u → t ≡ u) → (a b : List Item) → Says a → Says b → canonical a ≡ canonical b → a ≡ b
items_are_one k one tree a b x y same =
    let read = subst (λ (text : List ℕ). AreTokensFrom start (chars text) (lexemes_of a)) same (tokens_back k a x.said x.ends) in
    tree a b (one start (chars (canonical b)) (lexemes_of a) (lexemes_of b) read (tokens_back k b y.said y.ends))
