-- Pairs of words in families.
use Rattle.std.specs.Prelude.{◌≡◌, ℕ, ◌+◌, ◌*◌, List}
use Rattle.sbl_rows.specs.Classes.{Pair}
use Rattle.sbl_rows.specs.Families.{any_two, other_stem, pairs_across, pairs_within, same_stem}

-- the pairs of words of one family, and of two
abbrev pub all_pairs : List (List Pair) → ℕ
all_pairs families = pairs_within any_two families + pairs_across any_two families

-- n words have so many pairs: n (n - 1) / 2
abbrev pub ArePairsOf : ℕ → ℕ → Type 0
ArePairsOf n pairs = 2 * pairs + n ≡ n * n

-- the pairs of words of one stem in one family, and those of two, are all pairs in one family
abbrev pub SumsPairs : List (List Pair) → Type 0
SumsPairs families = pairs_within same_stem families + pairs_within other_stem families ≡ pairs_within any_two families
