-- Counts over views.
use Rattle.std.proofs.Common.{◌≡◌, ◌+◌, Bool, ℕ, List, [], ◌∷◌, map, cond, refl}
use Rattle.std.specs.List.{count_by, fold}

fold-map : {A B : Type 0} (f : A → B) (g : ℕ → B → ℕ) (n : ℕ) (xs : List A) → fold (λ m x. g m (f x)) n xs ≡ fold g n (map f xs)
fold-map f g n [] = refl
fold-map f g n (x ∷ xs) = fold-map f g (g n (f x)) xs

pub count_by-map : {A B : Type 0} (f : A → B) (test : B → Bool) (xs : List A) → count_by (λ x. test (f x)) xs ≡ count_by test (map f xs)
count_by-map f test xs = fold-map f (λ m y. m + cond (test y) 1 0) 0 xs
