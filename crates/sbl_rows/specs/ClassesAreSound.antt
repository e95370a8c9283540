-- Laws of the classes of any pairs, and of any rows.
use Rattle.std.specs.Prelude.{◌≡◌, ◌&&◌, ◌<◌, ℕ, List, map, length, All}
use Rattle.std.specs.List.{list_any}
use Rattle.std.specs.List.Sorted.{IsStrictlySortedBy}
use Rattle.std.specs.Ordering.{nat_cmp}
use Rattle.std.specs.Cmp.Lexicographic.{slice_cmp}
use Rattle.std.specs.Str.{bytes_eq}
use Rattle.sbl_rows.specs.Classes.{Class, Pair, classes_of, is_stem, pair_classes}
use Rattle.sbl_rows.specs.Rows.{Row}

-- each text is before the next in code point order; a prefix comes first
abbrev pub Rise : List (List ℕ) → Type 0
Rise texts = IsStrictlySortedBy (slice_cmp nat_cmp) texts

-- The stems are in strictly ascending order, and so are the members of each class. Each class has at least one member.
abbrev pub AreRising : List Class → Type 0
AreRising classes = Rise (map (λ c. c.stem) classes) × All (λ c. Rise c.members × (0 < length c.members)) classes

-- ---- pairs

abbrev pub ClassesOfPairsRise : Type 0
ClassesOfPairsRise = (pairs : List Pair) → AreRising (pair_classes pairs)

-- There is a class of this stem with this member exactly if they are one of the pairs.
abbrev pub ClassesAreOfPairs : Type 0
ClassesAreOfPairs =
    (pairs : List Pair) (stem member : List ℕ)
    → list_any (λ c. bytes_eq stem c.stem && list_any (bytes_eq member) c.members) (pair_classes pairs)
    ≡ list_any (λ p. bytes_eq stem p.0 && bytes_eq member p.1) pairs

-- ---- rows

abbrev pub ClassesRise : Type 0
ClassesRise = (rows : List Row) → AreRising (classes_of rows)

-- There is a class of this stem with this word exactly if there is a row of this word with this stem.
abbrev pub ClassesAreOfRows : Type 0
ClassesAreOfRows =
    (rows : List Row) (stem word : List ℕ)
    → list_any (λ c. bytes_eq stem c.stem && list_any (bytes_eq word) c.members) (classes_of rows)
    ≡ list_any (λ r. is_stem stem r.outcome && bytes_eq word r.word) rows
