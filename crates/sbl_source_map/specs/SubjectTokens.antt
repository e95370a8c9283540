-- The tokens of a text that the checks look at.
use Rattle.std.specs.Prelude.{Bool, true, false, List, [], ◌∷◌, map, Option, Some, None, ℕ}
use Rattle.sbl_text.specs.Tokens.{PlacedToken}
use Rattle.sbl_token.specs.Lexemes.{Lexeme, word, sign, literal}
use Rattle.sbl_token.specs.Lexemes as lexemes
use Rattle.sbl_token.specs.declared.words.Word.TheVariants as words
use Rattle.sbl_token.specs.declared.signs.Sign.TheVariants as signs
use Rattle.sbl_resolver.specs.Subjects.{Subject, name, string, substring, among, backwards}

-- ---- which parentheses are those of an among

abbrev pub is_among : Lexeme → Bool
is_among (word words.Among) = true
is_among _ = false

abbrev pub without_first : List Bool → List Bool
without_first [] = []
without_first (b ∷ bs) = bs

-- The parentheses that are open after a token, the innermost first: true for those of an among. Parentheses are an
-- among's if the word `among` is right before them.
abbrev pub open_after : Bool → Lexeme → List Bool → List Bool
open_after follows_among (sign signs.Open) brackets = follows_among ∷ brackets
open_after follows_among (sign signs.Close) brackets = without_first brackets
open_after follows_among _ brackets = brackets

-- the innermost open parentheses are those of an among
abbrev pub is_in_among : List Bool → Bool
is_in_among [] = false
is_in_among (b ∷ bs) = b

-- ---- what the checks look at

abbrev pub string_if : Bool → List ℕ → Option Subject
string_if false characters = None
string_if true characters = Some (string characters)

-- What a token is to the checks: each name, each `substring`, `among` and `backwards`, and each literal that is right in
-- the parentheses of an among. They do not look at any other token.
abbrev pub subject_in : Bool → Lexeme → Option Subject
subject_in in_among (lexemes.name n) = Some (name n)
subject_in in_among (word words.Substring) = Some substring
subject_in in_among (word words.Among) = Some among
subject_in in_among (word words.Backwards) = Some backwards
subject_in in_among (literal spelling characters) = string_if in_among characters
subject_in in_among _ = None

-- a token that the checks look at, and what it is to them
pub record SubjectToken : Type 0 where
  pub subject : Subject
  pub token : PlacedToken

abbrev pub and_more : Option Subject → PlacedToken → List SubjectToken → List SubjectToken
and_more None t more = more
and_more (Some x) t more = record { subject = x; token = t } ∷ more

-- the same of tokens, given whether the one before them is `among`, and the parentheses that are open there
abbrev pub subject_tokens_after : Bool → List Bool → List PlacedToken → List SubjectToken
subject_tokens_after follows_among brackets [] = []
subject_tokens_after follows_among brackets (t ∷ ts) =
    and_more (subject_in (is_in_among brackets) t.lexeme) t (subject_tokens_after (is_among t.lexeme) (open_after follows_among t.lexeme brackets) ts)

-- the tokens that the checks look at in a text with these tokens, in order
abbrev pub subject_tokens : List PlacedToken → List SubjectToken
subject_tokens ts = subject_tokens_after false [] ts

-- what they are to the checks
abbrev pub subjects : List SubjectToken → List Subject
subjects ms = map (λ (m : SubjectToken). m.subject) ms
