-- The vocabulary: a list of words, each a non-empty list of characters, without repeats.
use Rattle.std.specs.Prelude.{ℕ, Bool, true, List, [], ◌∷◌, ◌++◌, if◌then◌else◌}
use Rattle.std.specs.Str.{bytes_eq}
use Rattle.std.specs.List.{fold, list_any}

-- the word is in the list
abbrev pub is_word : List ℕ → List (List ℕ) → Bool
is_word word words = list_any (bytes_eq word) words

-- the word is empty or in the list
abbrev pub is_skipped : List ℕ → List (List ℕ) → Bool
is_skipped [] words = true
is_skipped word words = is_word word words

-- the words with one more at the end, unless it is skipped
abbrev pub with_word : List (List ℕ) → List ℕ → List (List ℕ)
with_word words w = if is_skipped w words then words else words ++ w ∷ []

-- the vocabulary of a list of words: empty words and repeats are skipped, so a word keeps its first position
abbrev pub vocabulary : List (List ℕ) → List (List ℕ)
vocabulary words = fold with_word [] words

-- the words without this one, the gap closed
abbrev pub without : List ℕ → List (List ℕ) → List (List ℕ)
without word [] = []
without word (w ∷ words) = if bytes_eq word w then words else w ∷ without word words
