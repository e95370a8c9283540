-- The largest classes.
use Rattle.std.specs.Prelude.{ℕ, List, [], ◌∷◌, length, take}
use Rattle.std.specs.declared.cmp.Ordering.{Ordering}
use Rattle.std.specs.Ordering.{nat_cmp, ordering_then}
use Rattle.std.specs.Cmp.Lexicographic.{slice_cmp}
use Rattle.std.specs.BTreeSet.{replace_key}
use Rattle.sbl_rows.specs.Classes.{Class, classes_of}
use Rattle.sbl_rows.specs.Rows.{Row}

-- the larger class comes first; of one size, the one whose stem is earlier in code point order
abbrev pub size_cmp : Class → Class → Ordering
size_cmp c d = ordering_then (nat_cmp (length d.members) (length c.members)) (slice_cmp nat_cmp c.stem d.stem)

-- the classes in this order
abbrev pub by_size : List Class → List Class
by_size [] = []
by_size (c ∷ classes) = replace_key size_cmp (by_size classes) c

-- the n largest classes, or all if there are no more
abbrev pub largest_of : ℕ → List Row → List Class
largest_of n rows = take n (by_size (classes_of rows))
