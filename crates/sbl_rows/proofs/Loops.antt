-- Steps of loops over slices.
use Rattle.std.proofs.Common.{◌≡◌, ◌∙◌, ◌+◌, ◌<◌, ◌≤◌, ◌++◌, ℕ, arith, length-append, suc, List, [], ◌∷◌, map, drop, take, length, Option, Some, None, get_or, add-one, append_assoc, refl, sym, ap}
use Rattle.std.specs.List.{cons_option, filter_map, flat_map}
use Rattle.std.specs.Option.{option_map, option_to_list}
use Rattle.std.proofs.lemmas.List.{length-map, map-append, take-append-drop}
use Rattle.std.proofs.Math.Seq.{drop-cons, take-suc}

pub next : {D V : Type 0} (view : D → V) (xs : List D) (i : ℕ) (d x : D) → i < length xs → x ≡ get_or xs i d → map view (drop i xs) ≡ view x ∷ map view (drop (i + 1) xs)
next view xs i d x lt is =
    ap (map view) (drop-cons xs i d lt) ∙ ap (λ y. view y ∷ map view (drop (suc i) xs)) (sym is) ∙ ap (λ k. view x ∷ map view (drop k xs)) (sym (add-one i))

pub put_option : {C : Type 0} (o : Option C) (xs : List C) → option_to_list o ++ xs ≡ cons_option o xs
put_option None xs = refl
put_option (Some x) xs = refl

pub map-some : {A B : Type 0} (f : A → B) (o : Option A) → map f (option_to_list o) ≡ option_to_list (option_map f o)
map-some f None = refl
map-some f (Some x) = refl

-- an item more of a list, if there is one, as `see` shows it
pub map_push_option : {E C : Type 0} (see : E → C) (old new : List E) (o : Option E) → new ≡ old ++ option_to_list o → map see new ≡ map see old ++ option_to_list (option_map see o)
map_push_option see old new o more = ap (map see) more ∙ map-append see old (option_to_list o) ∙ ap (λ l. map see old ++ l) (map-some see o)

-- one item more, if there is one, of a list that `h` makes
pub step : {D V E C : Type 0} (h : V → Option C) (view : D → V) (see : E → C) (xs : List D) (i : ℕ) (d x : D) (old new : List E) (o : Option E) (goal : List C)
    → i < length xs → x ≡ get_or xs i d → new ≡ old ++ option_to_list o → option_map see o ≡ h (view x)
    → map see old ++ filter_map h (map view (drop i xs)) ≡ goal → map see new ++ filter_map h (map view (drop (i + 1) xs)) ≡ goal
step h view see xs i d x old new o goal lt is more made so_far =
    ap (λ l. l ++ filter_map h (map view (drop (i + 1) xs))) (map_push_option see old new o more ∙ ap (λ p. map see old ++ option_to_list p) made)
    ∙ append_assoc (map see old) (option_to_list (h (view x))) (filter_map h (map view (drop (i + 1) xs)))
    ∙ ap (λ l. map see old ++ l) (put_option (h (view x)) (filter_map h (map view (drop (i + 1) xs))))
    ∙ ap (λ l. map see old ++ filter_map h l) (sym (next view xs i d x lt is))
    ∙ so_far

-- one item more of a list that `f` makes
pub step_map : {D V C : Type 0} (f : V → C) (view : D → V) (xs : List D) (i : ℕ) (d x : D) (old new goal : List C)
    → i < length xs → x ≡ get_or xs i d → new ≡ old ++ f (view x) ∷ []
    → old ++ map f (map view (drop i xs)) ≡ goal → new ++ map f (map view (drop (i + 1) xs)) ≡ goal
step_map f view xs i d x old new goal lt is more so_far =
    ap (λ l. l ++ map f (map view (drop (i + 1) xs))) more
    ∙ append_assoc old (f (view x) ∷ []) (map f (map view (drop (i + 1) xs)))
    ∙ ap (λ l. old ++ map f l) (sym (next view xs i d x lt is))
    ∙ so_far

-- one item more of a list that `f` makes of many
pub step_flat : {D V C : Type 0} (f : V → List C) (view : D → V) (xs : List D) (i : ℕ) (d x : D) (old new goal : List C)
    → i < length xs → x ≡ get_or xs i d → new ≡ old ++ f (view x)
    → old ++ flat_map f (map view (drop i xs)) ≡ goal → new ++ flat_map f (map view (drop (i + 1) xs)) ≡ goal
step_flat f view xs i d x old new goal lt is more so_far =
    ap (λ l. l ++ flat_map f (map view (drop (i + 1) xs))) more
    ∙ append_assoc old (f (view x)) (flat_map f (map view (drop (i + 1) xs)))
    ∙ ap (λ l. old ++ flat_map f l) (sym (next view xs i d x lt is))
    ∙ so_far

-- the items so far, and one more
pub so_far : {D V : Type 0} (view : D → V) (xs : List D) (i : ℕ) (d : D) → i < length xs → map view (take (i + 1) xs) ≡ map view (take i xs) ++ view (get_or xs i d) ∷ []
so_far view xs i d lt = ap (λ k. map view (take k xs)) (add-one i) ∙ ap (map view) (take-suc xs i d lt) ∙ map-append view (take i xs) (get_or xs i d ∷ [])

pub so_far-length : {D V : Type 0} (view : D → V) (xs : List D) (i : ℕ) → i < length xs → length (map view (take (i + 1) xs)) ≤ length xs
so_far-length view xs i lt =
    let a : length (map view (take (i + 1) xs)) ≡ length (take (i + 1) xs) = length-map (take (i + 1) xs) view in
    let b : length (take (i + 1) xs) + length (drop (i + 1) xs) ≡ length xs = sym (length-append (take (i + 1) xs) (drop (i + 1) xs)) ∙ ap length (take-append-drop (i + 1) xs) in
    omega arith
