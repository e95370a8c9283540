-- The words of a list that are new to a vocabulary.
use Rattle.std.specs.Prelude.{ℕ, List, not, if◌then◌else◌}
use Rattle.std.specs.List.{filter}
use Rattle.sbl_bench.specs.Vocabulary.{is_word}

-- the words of the second list that are not in the first
abbrev pub new_words : List (List ℕ) → List (List ℕ) → List (List ℕ)
new_words before words = filter (λ word. not (is_word word before)) words

-- how many runs a word needs if these are in the vocabulary
abbrev pub runs_of_word : List (List ℕ) → List ℕ → ℕ
runs_of_word before word = if is_word word before then 0 else 1
