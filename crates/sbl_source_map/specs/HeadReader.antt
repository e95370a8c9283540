-- The words of a definition, read one after another.
use Rattle.std.specs.Prelude.{◌≡◌, ◌++◌, ℕ, Bool, true, false, List, [], ◌∷◌, codes, Option, Some, None}
use Rattle.std.specs.Str.{chars}
use Rattle.sbl_text.specs.Directives.{start}
use Rattle.sbl_text.specs.Literals.{byte_length}
use Rattle.sbl_text.specs.Tokens.{Reading}
use Rattle.sbl_source_map.specs.Heads.{Follows}

abbrev pub as_words : Bool → List (List ℕ)
as_words true = codes "as" ∷ []
as_words false = []

-- the words that a definition of this name begins with
abbrev pub head_words : List ℕ → Bool → List (List ℕ)
head_words name is_routine = codes "define" ∷ name ∷ as_words is_routine

-- The next token of a text is this word and ends at this byte; what follows the next words follows it too. Or there is another
-- token, or none.
abbrev pub IsAfterWord : Reading → Reading → List ℕ → Option ℕ → Type 0
IsAfterWord r t word None = (words : List (List ℕ)) → Follows r.text r.state r.rest (word ∷ words) None
IsAfterWord r t word (Some end) =
    (t.text ≡ r.text) × (t.fault ≡ None) × ((before : List ℕ) × (r.text ≡ before ++ t.rest) × (end ≡ byte_length before))
    × ((words : List (List ℕ)) (after : Option (List ℕ)) → Follows r.text t.state t.rest words after
    → Follows r.text r.state r.rest (word ∷ words) after)

-- the byte of a text after these words, if they are its first tokens
abbrev pub IsEndOf : List (List ℕ) → List ℕ → Option ℕ → Type 0
IsEndOf words text None = Follows (chars text) start (chars text) words None
IsEndOf words text (Some end) =
    (before : List ℕ) × (rest : List ℕ) × (chars text ≡ before ++ rest) × (end ≡ byte_length before)
    × Follows (chars text) start (chars text) words (Some rest)
