-- Numbers of amongs, by the name of their routine.
use Rattle.std.specs.Prelude.{ℕ, List, [], ◌∷◌, ◌++◌, slice_index_or, if◌then◌else◌}
use Rattle.std.specs.Str.{bytes_eq}
use Rattle.sbl_compiler.specs.NumberedNames.{number_of}

-- routines, and the numbers of each
pub record AmongList' : Type 0 where
  pub routines : List (List ℕ)
  pub numbers : List (List ℕ)

-- the numbers of a routine; none if it is not listed
abbrev pub numbers_of : AmongList' → List ℕ → List ℕ
numbers_of list n = slice_index_or list.numbers (number_of list.routines n) []

-- the numbers ks of routine n after number k is added to those of routine m
abbrev pub with_number : List ℕ → ℕ → List ℕ → List ℕ → List ℕ
with_number m k n ks = if bytes_eq m n then ks ++ k ∷ [] else ks
