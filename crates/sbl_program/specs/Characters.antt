-- Characters in a list.
use Rattle.std.specs.Prelude.{ℕ, Bool, List, nat_eq}
use Rattle.std.specs.List.{list_any}

-- the list contains the character
abbrev pub has : List ℕ → ℕ → Bool
has set c = list_any (λ x. nat_eq x c) set
