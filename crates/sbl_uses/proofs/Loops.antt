-- The next value of a loop.
use Rattle.std.proofs.Common.{◌≡◌, ◌∙◌, ◌∷◌, ◌+◌, ◌-◌, ◌<◌, ◌≤◌, ℕ, List, arith, sym, ap, drop, get_or, length, map}
use Rattle.std.proofs.lemmas.List.{drop_more}

pub at_prefix : {X Y : Type 0} (f : X → Y) (xs : List X) (i : ℕ) (x : X) → i < length xs → x ≡ get_or xs i x → map f (drop i xs) ≡ f x ∷ map f (drop (i + 1) xs)
at_prefix f xs i x lt e = ap (map f) (drop_more xs i x lt) ∙ ap (λ y. f y ∷ map f (drop (i + 1) xs)) (sym e)

-- the value at an index
pub at_index : {X Y : Type 0} (f : X → Y) (xs : List X) (i : ℕ) (d : X) → i < length xs → map f (drop i xs) ≡ f (get_or xs i d) ∷ map f (drop (i + 1) xs)
at_index f xs i d lt = ap (map f) (drop_more xs i d lt)

-- the same of a loop that goes from the end to the beginning
pub before_index : {X Y : Type 0} (f : X → Y) (xs : List X) (i : ℕ) (d : X) → 0 < i → i ≤ length xs → map f (drop (i - 1) xs) ≡ f (get_or xs (i - 1) d) ∷ map f (drop i xs)
before_index f xs i d more le =
    let lt : i - 1 < length xs = omega arith in
    let next : i - 1 + 1 ≡ i = omega arith in
    at_index f xs (i - 1) d lt ∙ ap (λ (k : ℕ). f (get_or xs (i - 1) d) ∷ map f (drop k xs)) next

pub one_less : (i n : ℕ) → i ≤ n → i - 1 ≤ n
one_less i n le = omega arith

pub at_zero : (i : ℕ) → i ≤ 0 → i ≡ 0
at_zero i le = omega arith
