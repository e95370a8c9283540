-- One more element of a list, seen through a function.
use Rattle.std.proofs.Common.{◌≡◌, ℕ, ◌+◌, ◌<◌, ◌≤◌, List, [], ◌∷◌, ◌++◌, length, map, take, drop, get_or, refl, sym, ap, ◌∙◌, arith}
use Rattle.std.proofs.lemmas.List.{take_more, take_all, drop_more, drop_all, get_or-map, length-map}

pub taken_more : {X Y : Type 0} (f : X → Y) (xs : List X) (i : ℕ) (x : X) (y : Y) → i < length xs → x ≡ get_or xs i x → f x ≡ y → take i (map f xs) ++ (y ∷ []) ≡ take (i + 1) (map f xs)
taken_more f xs i x y l e h =
    let k : i < length (map f xs) = omega (arith, l, length-map xs f) in
    let n : get_or (map f xs) i y ≡ y = get_or-map f xs i x y l ∙ ap f (sym e) ∙ h in
    sym (take_more (map f xs) i y k ∙ ap (λ v. take i (map f xs) ++ (v ∷ [])) n)

-- the first of what is left of a list
pub left_first : {X Y : Type 0} (f : X → Y) (xs : List X) (i : ℕ) (x : X) → i < length xs → x ≡ get_or xs i x → drop i (map f xs) ≡ f x ∷ drop (i + 1) (map f xs)
left_first f xs i x l e =
    let k : i < length (map f xs) = omega (arith, l, length-map xs f) in
    let n : get_or (map f xs) i (f x) ≡ f x = get_or-map f xs i x (f x) l ∙ ap f (sym e) in
    drop_more (map f xs) i (f x) k ∙ ap (λ v. v ∷ drop (i + 1) (map f xs)) n

-- nothing is left at the end
pub left_none : {X Y : Type 0} (f : X → Y) (xs : List X) (i : ℕ) → length xs ≤ i → drop i (map f xs) ≡ []
left_none f xs i l = drop_all i (map f xs) (omega (arith, l, length-map xs f))

-- all of a list is taken at its end
pub taken_all : {X Y : Type 0} (f : X → Y) (xs : List X) (i : ℕ) → length xs ≤ i → take i (map f xs) ≡ map f xs
taken_all f xs i l = take_all i (map f xs) (omega (arith, l, length-map xs f))

-- two functions in turn
pub map_twice : {X Y Z : Type 0} (f : X → Y) (g : Y → Z) (xs : List X) → map (λ x. g (f x)) xs ≡ map g (map f xs)
map_twice f g [] = refl
map_twice f g (x ∷ xs) = ap (λ t. g (f x) ∷ t) (map_twice f g xs)
