-- Classes: their order, their members, and the largest of them.
use Rattle.std.specs.Prelude.{◌&&◌, ℕ, Bool, List, ◌++◌}
use Rattle.std.specs.List.{list_any}
use Rattle.std.specs.List.Sorted.{IsPermutation, IsStrictlySortedBy}
use Rattle.std.specs.Ordering.{nat_cmp}
use Rattle.std.specs.Cmp.Lexicographic.{slice_cmp}
use Rattle.std.specs.Str.{bytes_eq}
use Rattle.sbl_rows.specs.Classes.{Class}
use Rattle.sbl_rows.specs.LargestAreSound.{AreRanked}

-- each text is before the next in code point order
abbrev pub Ascend : List (List ℕ) → Type 0
Ascend texts = IsStrictlySortedBy (slice_cmp nat_cmp) texts

-- whether one of the classes has this stem and this member
abbrev pub have_member : List ℕ → List ℕ → List Class → Bool
have_member stem member classes = list_any (λ c. bytes_eq stem c.stem && list_any (bytes_eq member) c.members) classes

-- the first classes and some others are all classes, each once, and each is before all that come after it
abbrev pub AreFirst : List Class → List Class → Type 0
AreFirst first classes = (others : List Class) × IsPermutation classes (first ++ others) × AreRanked (first ++ others)
