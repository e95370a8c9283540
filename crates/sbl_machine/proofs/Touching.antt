-- Lists of touches only grow.
use Rattle.std.proofs.Common.{◌≡◌, ℕ, zero, suc, Bool, true, false, List, [], ◌∷◌, ◌++◌, refl, sym, ap, ◌∙◌, ⊎_elim, replicate}
use Rattle.std.specs.Prelude.{nat_eq, if◌then◌else◌, ◌&&◌, slice_index_or}
use Rattle.std.specs.List.{list_any}
use Rattle.std.proofs.lemmas.Bool.{true≢false, or_cases, or_left, or_right, eqb-true}
use Rattle.sbl_semantics.specs.declared.touch.Touch.{Touch}
use Rattle.sbl_semantics.specs.declared.touch.Touch.TheVariants.{Entered, Searched, Tested}
use Rattle.sbl_semantics.specs.Touches.{same_touch, with_touch}

pub both_true : (a b : Bool) → (a && b) ≡ true → (a ≡ true) × (b ≡ true)
both_true true b h = (refl, h)
both_true false b h = absurd (true≢false (sym h))

same_is : (x y : Touch) → same_touch x y ≡ true → x ≡ y
same_is (Entered i) (Entered j) e = ap Entered (eqb-true i j e)
same_is (Entered i) (Searched j l) e = absurd (true≢false (sym e))
same_is (Entered i) (Tested h) e = absurd (true≢false (sym e))
same_is (Searched i k) (Entered j) e = absurd (true≢false (sym e))
same_is (Searched i k) (Tested h) e = absurd (true≢false (sym e))
same_is (Tested g) (Entered j) e = absurd (true≢false (sym e))
same_is (Tested g) (Searched j l) e = absurd (true≢false (sym e))
same_is (Tested g) (Tested h) e = ap Tested (eqb-true g h e)
same_is (Searched i k) (Searched j l) e =
    let b = both_true (nat_eq i j) (nat_eq k l) e in
    ap (λ n. Searched n k) (eqb-true i j b.0) ∙ ap (Searched j) (eqb-true k l b.1)

module _ (chosen : Touch → Bool) where
  pub has_chosen : (xs : List Touch) (x : Touch) → chosen x ≡ true → list_any (same_touch x) xs ≡ true → list_any chosen xs ≡ true
  has_chosen [] x c h = absurd (true≢false (sym h))
  has_chosen (y ∷ ys) x c h =
      ⊎_elim (λ e. or_left (chosen y) _ (sym (ap chosen (same_is x y e)) ∙ c)) (λ e. or_right (chosen y) _ (has_chosen ys x c e)) (or_cases (same_touch x y) _ h)

  last_chosen : (xs : List Touch) (x : Touch) → chosen x ≡ true → list_any chosen (xs ++ (x ∷ [])) ≡ true
  last_chosen [] x c = or_left (chosen x) _ c
  last_chosen (y ∷ ys) x c = or_right (chosen y) _ (last_chosen ys x c)

  stays_chosen : (xs ys : List Touch) → list_any chosen xs ≡ true → list_any chosen (xs ++ ys) ≡ true
  stays_chosen [] ys h = absurd (true≢false (sym h))
  stays_chosen (x ∷ xs) ys h =
      ⊎_elim (λ e. or_left (chosen x) _ e) (λ e. or_right (chosen x) _ (stays_chosen xs ys e)) (or_cases (chosen x) _ h)

  touched_by : (x : Touch) (xs : List Touch) (b : Bool) → list_any (same_touch x) xs ≡ b → chosen x ≡ true → list_any chosen (if b then xs else xs ++ (x ∷ [])) ≡ true
  touched_by x xs true h c = has_chosen xs x c h
  touched_by x xs false h c = last_chosen xs x c

  grows_by : (x : Touch) (xs : List Touch) (b : Bool) → list_any chosen xs ≡ true → list_any chosen (if b then xs else xs ++ (x ∷ [])) ≡ true
  grows_by x xs true h = h
  grows_by x xs false h = stays_chosen xs (x ∷ []) h

  -- what is chosen and touched is among the touches
  pub with_chosen : (x : Touch) (xs : List Touch) → chosen x ≡ true → list_any chosen (with_touch x xs) ≡ true
  with_chosen x xs c = touched_by x xs _ refl c

  -- and stays so
  pub with_grows : (x : Touch) (xs : List Touch) → list_any chosen xs ≡ true → list_any chosen (with_touch x xs) ≡ true
  with_grows x xs h = grows_by x xs _ h

pub not_then : (b c : Bool) → (b ≡ true → c ≡ true) → c ≡ false → b ≡ false
not_then true c f e = absurd (true≢false (sym (f refl) ∙ e))
not_then false c f e = refl

pub replicate_index : {A : Type 0} (n k : ℕ) (d : A) → slice_index_or (replicate n d) k d ≡ d
replicate_index zero k d = refl
replicate_index (suc n) zero d = refl
replicate_index (suc n) (suc k) d = replicate_index n k d
