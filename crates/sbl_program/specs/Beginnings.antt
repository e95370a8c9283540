-- The first characters of the strings of a table.
use Rattle.std.specs.Prelude.{◌≡◌, ℕ, Bool, true, false, List, [], ◌∷◌, ◌||◌, ◌%◌, Some, slice_get, slice_index_or}

-- the code point of a character leaves one of these remainders
abbrev pub has_remainder : List Bool → ℕ → Bool
has_remainder remainders c = slice_index_or remainders (c % 64) false

-- a text may begin with a string of the table: the first character of the text is in the class, or a string may match
-- everywhere
abbrev pub may_begin : (ℕ → Bool) → Bool → List ℕ → Bool
may_begin class everywhere [] = everywhere
may_begin class everywhere (c ∷ cs) = everywhere || class c

-- each of these strings may begin so
abbrev pub AreBeginnings : (ℕ → Bool) → Bool → List (List ℕ) → Type 0
AreBeginnings class everywhere texts = (k : ℕ) (v : List ℕ) → slice_get texts k ≡ Some v → may_begin class everywhere v ≡ true
