-- The last 100 of some edits.
use Rattle.std.proofs.Common.{◌≡◌, ◌∙◌, ℕ, zero, suc, List, [], ◌∷◌, ◌++◌, length, map, refl, ap, sym, arith}
use Rattle.std.specs.Prelude.{◌-◌, drop}
use Rattle.std.proofs.lemmas.List.{length-append, length-map, map-append, drop-append-le}
use Rattle.sbl_history.specs.History.{PastEdit, latest}

map_drop : {A B : Type 0} (f : A → B) (n : ℕ) (xs : List A) → map f (drop n xs) ≡ drop n (map f xs)
map_drop f zero xs = refl
map_drop f (suc n) [] = refl
map_drop f (suc n) (x ∷ xs) = map_drop f n xs

-- the last 99, and one more, are the last 100
pub one_more : {A : Type 0} (f : A → PastEdit) (xs : List A) (a : A) → map f (drop (length xs - 99) xs ++ a ∷ []) ≡ latest (map f xs ++ f a ∷ [])
one_more f xs a =
    let n = length xs - 99 in
    let long : length (map f xs ++ f a ∷ []) - 100 ≡ n = omega (arith, length-append (map f xs) (f a ∷ []), length-map xs f) in
    map-append f (drop n xs) (a ∷ []) ∙ ap (λ (ys : List PastEdit). ys ++ f a ∷ []) (map_drop f n xs)
    ∙ sym (ap (λ (m : ℕ). drop m (map f xs ++ f a ∷ [])) long ∙ drop-append-le n (map f xs) (f a ∷ []) (omega (arith, length-map xs f)))
