-- What replacing an among does to the tokens of a routine's body.
use Rattle.std.specs.Prelude.{◌≡◌, ℕ, ◌+◌, Bool, true, false, List, [], ◌∷◌, ◌++◌, Some, None, if◌then◌else◌}
use Rattle.sbl_token.specs.Lexemes.{Lexeme, word}
use Rattle.sbl_token.specs.declared.words.Word.TheVariants as words
use Rattle.sbl_ast.specs.Tree.{Command, Others, Starter, Groups, among_}
use Rattle.sbl_ast.specs.Places.{AtDepth, placed_command}
use Rattle.sbl_ast.specs.Texts.{body, places_in}
use Rattle.sbl_tree_amongs.specs.Amongs.{AmongContents, amongs_of_body, nth_held, put_in_body}

abbrev pub is_among : Lexeme → Bool
is_among (word words.Among) = true
is_among _ = false

-- how many tokens of a list are the word `among`
abbrev pub count_words : List AtDepth → ℕ
count_words [] = 0
count_words (p ∷ ps) = if is_among p.0 then count_words ps + 1 else count_words ps

-- The old tokens are `prefix`, those of the among with number k at its depth, and `following`. The new tokens are `prefix`,
-- those of the new among at the same depth, and `following`. `prefix` has k - 1 words `among`.
pub record IsBetween (k : ℕ) (h : AmongContents) (a : Starter × Groups) (old new : List AtDepth) : Type 0 where
  pub prefix : List AtDepth
  pub following : List AtDepth
  pub number : k ≡ count_words prefix + 1
  pub was : old ≡ prefix ++ placed_command (among_ h.1 h.2) h.0 following
  pub is : new ≡ prefix ++ placed_command (among_ a.0 a.1) h.0 following

-- this holds for each number that an among has
abbrev pub OneIsReplaced : Type 0
OneIsReplaced =
    (b : Command × Others) (k : ℕ) (a : Starter × Groups) (h : AmongContents) → nth_held k (amongs_of_body b) ≡ Some h
    → IsBetween k h a (places_in body b) (places_in body (put_in_body b k a))

-- if no among has the number, all tokens stay
abbrev pub NoneIsReplaced : Type 0
NoneIsReplaced =
    (b : Command × Others) (k : ℕ) (a : Starter × Groups) → nth_held k (amongs_of_body b) ≡ None
    → places_in body (put_in_body b k a) ≡ places_in body b
