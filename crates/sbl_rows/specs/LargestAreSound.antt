-- The law of the largest classes.
use Rattle.std.specs.Prelude.{◌≡◌, ◌⊎◌, ◌<◌, ℕ, ⊤, List, [], ◌∷◌, ◌++◌, length, min, All}
use Rattle.std.specs.List.Sorted.{IsPermutation}
use Rattle.std.specs.declared.cmp.Ordering.TheVariants.{Less}
use Rattle.std.specs.Ordering.{nat_cmp}
use Rattle.std.specs.Cmp.Lexicographic.{slice_cmp}
use Rattle.sbl_rows.specs.Classes.{Class, classes_of}
use Rattle.sbl_rows.specs.Largest.{largest_of}
use Rattle.sbl_rows.specs.Rows.{Row}

-- a class is before another if it has more words, or as many and an earlier stem in code point order
abbrev pub IsBefore : Class → Class → Type 0
IsBefore c d = (length d.members < length c.members) ⊎ ((length c.members ≡ length d.members) × (slice_cmp nat_cmp c.stem d.stem ≡ Less))

-- each class is before all that come after it
abbrev pub AreRanked : List Class → Type 0
AreRanked [] = ⊤
AreRanked (c ∷ classes) = All (IsBefore c) classes × AreRanked classes

-- The largest classes and some others are all classes of the rows, each once, and each is before all that come after it; so none that is
-- left out is before one that is in. There are n of them, or all classes if these are fewer.
abbrev pub LargestAreFirst : Type 0
LargestAreFirst =
    (n : ℕ) (rows : List Row)
    → ((others : List Class) × IsPermutation (classes_of rows) (largest_of n rows ++ others) × AreRanked (largest_of n rows ++ others))
    × (length (largest_of n rows) ≡ min n (length (classes_of rows)))
