-- Laws of the matching strings.
use Rattle.std.specs.Prelude.{◌≡◌, ◌↔◌, ℕ, suc, ◌<◌, ◌≤◌, true, List, ◌∷◌, ◌++◌, length, nat_eq, Option, Some, slice_get}
use Rattle.std.specs.List.{starts_with}
use Rattle.sbl_semantics.specs.Fitting.{below, fitting, first, length_at}
use Rattle.sbl_program.specs.Best.{IsBest}

-- the first of the longest strings that are a prefix of x is the first matching string
abbrev pub BestComesFirst : Type 0
BestComesFirst =
    (strings : List (List ℕ)) (x : List ℕ) (b : ℕ) (r : Option ℕ) → b ≤ suc (length x) → IsBest strings x b r → r ≡ first (below strings x b)

-- after a matching string come the shorter strings that are a prefix of it
abbrev pub RestIsItsOwn : Type 0
RestIsItsOwn =
    (strings : List (List ℕ)) (x : List ℕ) (before rest : List ℕ) (i : ℕ) → fitting strings x ≡ before ++ (i ∷ rest)
    → (w : List ℕ) × (slice_get strings i ≡ Some w) × (rest ≡ below strings w (length w))

-- the i-th string is a prefix of x
abbrev pub Matches : List (List ℕ) → List ℕ → ℕ → Type 0
Matches strings x i = (w : List ℕ) × (slice_get strings i ≡ Some w) × (starts_with nat_eq x w ≡ true)

-- no string is in the list twice
abbrev pub AllDiffer : List (List ℕ) → Type 0
AllDiffer strings = (i j : ℕ) (w : List ℕ) → slice_get strings i ≡ Some w → slice_get strings j ≡ Some w → i ≡ j

abbrev pub StandsIn : ℕ → List ℕ → Type 0
StandsIn i is = (before : List ℕ) × (rest : List ℕ) × (is ≡ before ++ (i ∷ rest))

-- if all strings differ, `fitting` has exactly the strings that match
abbrev pub FittingAreMatches : Type 0
FittingAreMatches = (strings : List (List ℕ)) (x : List ℕ) → AllDiffer strings → (i : ℕ) → StandsIn i (fitting strings x) ↔ Matches strings x i

-- each matching string is longer than the next one
abbrev pub FittingFall : Type 0
FittingFall =
    (strings : List (List ℕ)) (x : List ℕ) (before rest : List ℕ) (i j : ℕ) → fitting strings x ≡ before ++ (i ∷ (j ∷ rest))
    → length_at strings j < length_at strings i
