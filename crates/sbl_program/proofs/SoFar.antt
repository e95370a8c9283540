-- The best of the strings so far.
use Rattle.std.proofs.Common.{◌≡◌, ℕ, zero, suc, ◌+◌, ◌<◌, ◌≤◌, true, List, [], ◌∷◌, ◌++◌, length, take, Option, Some, None, refl, sym, ap, ◌∙◌, arith, ◌⊎◌, inl, inr}
use Rattle.std.specs.Prelude.{nat_eq, slice_get}
use Rattle.std.specs.List.{starts_with}
use Rattle.std.proofs.lemmas.List.{length-reverse, take_more}
use Rattle.std.proofs.Common.{get_or}
use Rattle.sbl_ast.specs.declared.mode.Mode.{Mode}
use Rattle.sbl_ast.specs.declared.mode.Mode.TheVariants.{Forward, Backward}
use Rattle.sbl_semantics.specs.Fitting.{read_as}
use Rattle.sbl_program.specs.Best.{BestSoFar}

pub read_length : (m : Mode) (w : List ℕ) → length (read_as m w) ≡ length w
read_length Forward w = refl
read_length Backward w = length-reverse w

some_same : (v w : List ℕ) → Some v ≡ Some w → v ≡ w
some_same v w e = cc

-- what stands in a list with one more
in_more : (ss : List (List ℕ)) (w v : List ℕ) (j : ℕ) → slice_get (ss ++ (w ∷ [])) j ≡ Some v → (slice_get ss j ≡ Some v) ⊎ ((j ≡ length ss) × (v ≡ w))
in_more [] w v zero e = inr (refl, sym (some_same w v e))
in_more [] w v (suc j) e = let no : ⊥ = (let k : None ≡ Some v = e in cc) in absurd no
in_more (s ∷ ss) w v zero e = inl e
in_more (s ∷ ss) w v (suc j) e =
    elim (in_more ss w v j e) [ inl h ↦ inl h | inr h ↦ inr (ap suc h.0, h.1) ]

at_more : (ss : List (List ℕ)) (w v : List ℕ) (j : ℕ) → slice_get ss j ≡ Some v → slice_get (ss ++ (w ∷ [])) j ≡ Some v
at_more [] w v j e = let no : ⊥ = (let k : None ≡ Some v = e in cc) in absurd no
at_more (s ∷ ss) w v zero e = e
at_more (s ∷ ss) w v (suc j) e = at_more ss w v j e

at_end : (ss : List (List ℕ)) (w : List ℕ) → slice_get (ss ++ (w ∷ [])) (length ss) ≡ Some w
at_end [] w = refl
at_end (s ∷ ss) w = at_end ss w

within : (ss : List (List ℕ)) (v : List ℕ) (j : ℕ) → slice_get ss j ≡ Some v → j < length ss
within [] v j e = let no : ⊥ = (let k : None ≡ Some v = e in cc) in absurd no
within (s ∷ ss) v zero e = omega arith
within (s ∷ ss) v (suc j) e = omega (arith, within ss v j e)

-- a string that is no prefix, or is too long, or no longer than the best
pub best_kept : (ss : List (List ℕ)) (x : List ℕ) (b : ℕ) (best : Option ℕ) (least : ℕ) (w : List ℕ) → BestSoFar ss x b best least → (starts_with nat_eq x w ≡ true → length w < b → length w < least) → BestSoFar (ss ++ (w ∷ [])) x b best least
best_kept ss x b None least w s few =
    record {
      is_best = λ j v e f. elim (in_more ss w v j e) [
        | inl h ↦ s.is_best j v h f
        | inr h ↦
            let n : length v ≡ length w = ap length h.1 in
            let g : starts_with nat_eq x w ≡ true = sym (ap (starts_with nat_eq x) h.1) ∙ f in
            let z : least ≡ 0 = s.least_is in
            let k : length w < b → ⊥ = λ q. let m : length w < least = few g q in omega (arith, m, z) in
            omega (arith, n, k)
      ];
      least_is = s.least_is;
    }
best_kept ss x b (Some i) least w s few =
    let old = s.is_best in
    let l : least ≡ suc (length old.0) = s.least_is old.0 old.1 in
    record {
      is_best = (
        old.0,
        at_more ss w old.0 i old.1,
        old.2,
        old.3,
        (λ j v e f q. elim (in_more ss w v j e) [
          | inl h ↦ old.4 j v h f q
          | inr h ↦
              let n : length v ≡ length w = ap length h.1 in
              let g : starts_with nat_eq x w ≡ true = sym (ap (starts_with nat_eq x) h.1) ∙ f in
              let m : length w < least = few g (omega (arith, n, q)) in
              omega (arith, m, l, n)
        ]),
        (λ j v k e f q. elim (in_more ss w v j e) [
          | inl h ↦ old.5 j v k h f q
          | inr h ↦
              let i_in : i < length ss = within ss old.0 i old.1 in
              absurd (omega (arith, i_in, h.0, k))
        ]),
      );
      least_is = λ v e. elim (in_more ss w v i e) [ inl h ↦ s.least_is v h | inr h ↦ let i_in : i < length ss = within ss old.0 i old.1 in absurd (omega (arith, i_in, h.0)) ];
    }

smaller_than : (ss : List (List ℕ)) (x : List ℕ) (b : ℕ) (best : Option ℕ) (least : ℕ) (w : List ℕ) → BestSoFar ss x b best least → length w < b → least ≤ length w → (j : ℕ) (v : List ℕ) → slice_get ss j ≡ Some v → starts_with nat_eq x v ≡ true → length v < b → length v < length w
smaller_than ss x b None least w s short long j v e f q = let m : b ≤ length v = s.is_best j v e f in absurd (omega (arith, m, q))
smaller_than ss x b (Some i) least w s short long j v e f q =
    let old = s.is_best in
    let l : least ≡ suc (length old.0) = s.least_is old.0 old.1 in
    let m : length v ≤ length old.0 = old.4 j v e f q in
    omega (arith, l, m, long)

-- a longer prefix
pub best_taken : (ss : List (List ℕ)) (x : List ℕ) (b : ℕ) (best : Option ℕ) (least : ℕ) (w : List ℕ) → BestSoFar ss x b best least → starts_with nat_eq x w ≡ true → length w < b → least ≤ length w → BestSoFar (ss ++ (w ∷ [])) x b (Some (length ss)) (suc (length w))
best_taken ss x b best least w s prefix short long =
    let smaller : (j : ℕ) (v : List ℕ) → slice_get ss j ≡ Some v → starts_with nat_eq x v ≡ true → length v < b → length v < length w = smaller_than ss x b best least w s short long in
    record {
      is_best = (
        w,
        at_end ss w,
        prefix,
        short,
        (λ j v e f q. elim (in_more ss w v j e) [ inl h ↦ (let m : length v < length w = smaller j v h f q in omega (arith, m)) | inr h ↦ (let n : length v ≡ length w = ap length h.1 in omega (arith, n)) ]),
        (λ j v k e f q. elim (in_more ss w v j e) [ inl h ↦ smaller j v h f q | inr h ↦ absurd (omega (arith, h.0, k)) ]),
      );
      least_is = λ v e. elim (in_more ss w v (length ss) e) [ inl h ↦ (let m : length ss < length ss = within ss v (length ss) h in absurd (omega (arith, m))) | inr h ↦ sym (ap (λ t. suc (length t)) h.1) ];
    }

-- the same, for a list one of whose strings comes next
pub so_far_next : (ss : List (List ℕ)) (i : ℕ) (w x : List ℕ) (b : ℕ) (best : Option ℕ) (least : ℕ) → i < length ss → get_or ss i [] ≡ w → BestSoFar (take i ss ++ (w ∷ [])) x b best least → BestSoFar (take (i + 1) ss) x b best least
so_far_next ss i w x b best least h e s =
    let same : take (i + 1) ss ≡ take i ss ++ (w ∷ []) = take_more ss i [] h ∙ ap (λ v. take i ss ++ (v ∷ [])) e in
    rw same s
