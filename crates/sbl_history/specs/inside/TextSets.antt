-- Sets of texts, by the place of each.
use Rattle.std.specs.Prelude.{ℕ, Bool, true, List, get_or, fold, ◌+◌, ◌*◌, ◌%◌}
use Rattle.sbl_history.specs.declared.text_set.TextSet.{TextSet}

-- the place after one more character
abbrev pub next_place : ℕ → ℕ → ℕ
next_place place character = (place * 31 + character) % 262144

abbrev pub place_of : List ℕ → ℕ
place_of text = fold next_place 0 text

-- whether the set has a text, by what is kept for its place
abbrev pub has : TextSet → List ℕ → Bool
has set text = get_or set.places.items (place_of text) true
