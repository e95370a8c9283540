-- Equal lists of touches.
use Rattle.std.proofs.Common.{◌≡◌, ◌∙◌, ◌&&◌, ℕ, Bool, true, false, List, [], ◌∷◌, Result, Ok, Err, MatchResult, IfOk, nat_eq, refl, sym, ap}
use Rattle.std.specs.Cmp.Lexicographic.{pointwise}
use Rattle.std.proofs.lemmas.Bool.{true≢false}
use Rattle.std.proofs.lemmas.Bool.Decides.{Decides-eqb}
use Rattle.sbl_semantics.specs.declared.touch.Touch.{Touch}
use Rattle.sbl_semantics.specs.declared.touch.Touch.TheVariants.{Entered, Searched, Tested}

-- a test compares two touches by their kinds and numbers
pub record IsTouchTest (same : Touch → Touch → Bool) : Type 0 where
  pub entered : (i j : ℕ) → same (Entered i) (Entered j) ≡ nat_eq i j
  pub searched : (i k j l : ℕ) → same (Searched i k) (Searched j l) ≡ (nat_eq i j && nat_eq k l)
  pub tested : (i j : ℕ) → same (Tested i) (Tested j) ≡ nat_eq i j
  pub entered_searched : (i j l : ℕ) → same (Entered i) (Searched j l) ≡ false
  pub entered_tested : (i j : ℕ) → same (Entered i) (Tested j) ≡ false
  pub searched_entered : (i k j : ℕ) → same (Searched i k) (Entered j) ≡ false
  pub searched_tested : (i k j : ℕ) → same (Searched i k) (Tested j) ≡ false
  pub tested_entered : (i j : ℕ) → same (Tested i) (Entered j) ≡ false
  pub tested_searched : (i j l : ℕ) → same (Tested i) (Searched j l) ≡ false

both_true : (a b : Bool) → (a && b) ≡ true → (a ≡ true) × (b ≡ true)
both_true true b h = (refl, h)
both_true false b h = absurd (true≢false (sym h))

apart : {P : Type 0} (b : Bool) → b ≡ true → b ≡ false → P
apart b h k = absurd (true≢false (sym h ∙ k))

equal_touches : (same : Touch → Touch → Bool) → IsTouchTest same → (x y : Touch) → same x y ≡ true → x ≡ y
equal_touches same is (Entered i) (Entered j) h = ap Entered ((Decides-eqb i j).0 (sym (is.entered i j) ∙ h))
equal_touches same is (Searched i k) (Searched j l) h =
    let p = both_true (nat_eq i j) (nat_eq k l) (sym (is.searched i k j l) ∙ h) in
    ap (λ (n : ℕ). Searched n k) ((Decides-eqb i j).0 p.0) ∙ ap (λ (n : ℕ). Searched j n) ((Decides-eqb k l).0 p.1)
equal_touches same is (Tested i) (Tested j) h = ap Tested ((Decides-eqb i j).0 (sym (is.tested i j) ∙ h))
equal_touches same is (Entered i) (Searched j l) h = apart _ h (is.entered_searched i j l)
equal_touches same is (Entered i) (Tested j) h = apart _ h (is.entered_tested i j)
equal_touches same is (Searched i k) (Entered j) h = apart _ h (is.searched_entered i k j)
equal_touches same is (Searched i k) (Tested j) h = apart _ h (is.searched_tested i k j)
equal_touches same is (Tested i) (Entered j) h = apart _ h (is.tested_entered i j)
equal_touches same is (Tested i) (Searched j l) h = apart _ h (is.tested_searched i j l)

equal_all : (same : Touch → Touch → Bool) → IsTouchTest same → (xs ys : List Touch) → pointwise same xs ys ≡ true → xs ≡ ys
equal_all same is [] [] h = refl
equal_all same is [] (y ∷ ys) h = absurd (true≢false (sym h))
equal_all same is (x ∷ xs) [] h = absurd (true≢false (sym h))
equal_all same is (x ∷ xs) (y ∷ ys) h =
    let p = both_true (same x y) (pointwise same xs ys) h in
    ap (λ (t : Touch). t ∷ xs) (equal_touches same is x y p.0) ∙ ap (λ (ts : List Touch). y ∷ ts) (equal_all same is xs ys p.1)

-- two lists that are the same by a test
pub equal_lists : {same : Touch → Touch → Bool} (xs ys : List Touch) (r : Bool) → r ≡ pointwise same xs ys → r ≡ true → IsTouchTest same → xs ≡ ys
equal_lists {same} xs ys r is h test = equal_all same test xs ys (sym is ∙ h)

-- what a result gives if it is a success
pub ok_more : {T E : Type 0} (P R : T → Type 0) (Q : E → Type 0) (r : Result T E) → ((x : T) → P x → R x) → MatchResult r P Q → IfOk r R
ok_more P R Q (Ok x) f h = f x h
ok_more P R Q (Err e) f h = tt
