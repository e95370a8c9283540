-- The index beside a list of names, so that no search goes through them.
use Rattle.std.specs.Prelude.{◌≡◌, ℕ, ◌+◌, List, [], ◌∷◌, Option, Some, None, if◌then◌else◌, String}
use Rattle.std.specs.BTreeMap.{BTreeMap, get_by_text}
use Rattle.std.specs.Str.{bytes_eq}

-- the number of the first name that is equal to this one, if the first name of the list has number i
abbrev pub first_from : ℕ → List (List ℕ) → List ℕ → Option ℕ
first_from i [] n = None
first_from i (x ∷ xs) n = if bytes_eq x n then Some i else first_from (i + 1) xs n

-- each name has the number of the first that is equal to it, and other names have none
pub record AreNumbered {Y : Type 0} (names : List (List ℕ)) (numbers : BTreeMap (String Y) ℕ) : Type 0 where
  pub first : (n : List ℕ) → get_by_text numbers n ≡ first_from 0 names n
