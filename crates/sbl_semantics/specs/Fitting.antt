-- The matching strings of an among.
use Rattle.std.specs.Prelude.{ℕ, zero, suc, ◌-◌, List, [], ◌∷◌, length, map, take, drop, reverse, nat_eq, Option, Some, None, slice_index_or}
use Rattle.std.specs.List.{position}
use Rattle.std.specs.Cmp.Lexicographic.{pointwise}
use Rattle.sbl_ast.specs.declared.mode.Mode.{Mode}
use Rattle.sbl_ast.specs.declared.mode.Mode.TheVariants.{Forward, Backward}

-- a string as read in the mode
abbrev pub read_as : Mode → List ℕ → List ℕ
read_as Forward string = string
read_as Backward string = reverse string

abbrev pub read_all : Mode → List (List ℕ) → List (List ℕ)
read_all m es = map (read_as m) es

-- the text from `at` to `bound`, as read in the mode; empty if `at` is past `bound`
abbrev pub ahead_at : Mode → List ℕ → ℕ → ℕ → List ℕ
ahead_at Forward text at bound = take (bound - at) (drop at text)
ahead_at Backward text at bound = reverse (take (at - bound) (drop bound text))

-- the length of the i-th string
abbrev pub length_at : List (List ℕ) → ℕ → ℕ
length_at strings i = length (slice_index_or strings i [])

-- a number, if there is one, followed by others
abbrev pub onto : Option ℕ → List ℕ → List ℕ
onto None is = is
onto (Some i) is = i ∷ is

-- the numbers of the strings with fewer than b characters that are a prefix of x, longest first; if the strings differ,
-- there is at most one of each length
abbrev pub below : List (List ℕ) → List ℕ → ℕ → List ℕ
below strings x zero = []
below strings x (suc l) = onto (position (pointwise nat_eq (take l x)) strings) (below strings x l)

-- the numbers of the strings that match, that is, are a prefix of x, longest first
unfoldable pub fitting : List (List ℕ) → List ℕ → List ℕ
fitting strings x = below strings x (suc (length x))

abbrev pub first : List ℕ → Option ℕ
first [] = None
first (i ∷ is) = Some i
