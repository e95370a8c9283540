-- The rows of a linked table, once they are sorted.
use Rattle.std.proofs.Common.{◌≡◌, ℕ, suc, ◌+◌, ◌<◌, ◌≤◌, Bool, true, false, List, [], ◌∷◌, ◌++◌, length, map, Option, Some, None, option_map, refl, sym, ap, ◌∙◌, arith, get_or}
use Rattle.std.specs.Prelude.{nat_lt, slice_get}
use Rattle.std.specs.declared.cmp.Ordering.{Ordering}
use Rattle.std.specs.declared.cmp.Ordering.TheVariants.{Less, Equal, Greater}
use Rattle.std.specs.Ordering.{is_lt, is_gt, nat_cmp, ordering_then, ordering_reverse}
use Rattle.std.specs.Cmp.{IsTotalOrder, then_total, on_total, back_total, nat_cmp_total, tied_itself, upto}
use Rattle.std.specs.Cmp.Lexicographic.{slice_cmp, nat_list_cmp_total}
use Rattle.std.specs.List.{All, Contains}
use Rattle.std.specs.List.Sorted.{IsPermutation, IsSorted}
use Rattle.std.proofs.lemmas.Bool.{ltb-true, ltb-false}
use Rattle.std.proofs.lemmas.Cmp.{ranked}
use Rattle.std.proofs.lemmas.List.{length-map, get_or_append_left, get_or_push, length-append}
use Rattle.std.proofs.lemmas.List.Sorted.{ranks_by, sorted_far, All-permutation, Contains-permutation}
use Rattle.std.proofs.lemmas.Option.{slice_get-map, slice_get-get_or, slice_get_within, get_or_from_slice_get}
use Rattle.sbl_program.specs.Linked.{AreOwn, AreRows, Rise, Row, TiesFall, numbers_of, row_cmp, texts_of}
use Rattle.sbl_program.proofs.Order.{true_or_false}

-- one more number
own_at : (ns : List ℕ) (i k : ℕ) (t : Bool) → AreOwn ns → length ns ≡ i → nat_lt k i ≡ t → k < suc i → get_or (ns ++ (i ∷ [])) k 0 ≡ k
own_at ns i k true own n t l =
    let less : k < length ns = omega (arith, n, ltb-true k i t) in
    get_or_append_left ns (i ∷ []) 0 k less ∙ own k less
own_at ns i k false own n t l =
    let same : i ≡ k = omega (arith, l, ltb-false k i t) in
    ap (λ j. get_or (ns ++ (i ∷ [])) j 0) (sym same) ∙ get_or_push ns i 0 i n ∙ same

pub own_more : (ns : List ℕ) (i : ℕ) → AreOwn ns → length ns ≡ i → AreOwn (ns ++ (i ∷ []))
own_more ns i own n k l =
    let whole : length (ns ++ (i ∷ [])) ≡ length ns + 1 = length-append ns (i ∷ []) in
    own_at ns i k (nat_lt k i) own n refl (omega (arith, l, whole, n))

-- the row from a part of it
following : {X : Type 0} (f : Row → X) (o : Option Row) (u : X) → option_map f o ≡ Some u → (r : Row) × (o ≡ Some r) × (f r ≡ u)
following f None u e = let no : ⊥ = cc in absurd no
following f (Some r) u e = (r, refl, let same : f r ≡ u = cc in same)

pub row_at : {X : Type 0} (f : Row → X) (rows : List Row) (k : ℕ) (u : X) → slice_get (map f rows) k ≡ Some u → (r : Row) × (slice_get rows k ≡ Some r) × (f r ≡ u)
row_at f rows k u e = following f (slice_get rows k) u (sym (slice_get-map f rows k) ∙ e)

pub part_at : {X : Type 0} (f : Row → X) (rows : List Row) (k : ℕ) (r : Row) → slice_get rows k ≡ Some r → slice_get (map f rows) k ≡ Some (f r)
part_at f rows k r e = slice_get-map f rows k ∙ ap (option_map f) e

row_total : IsTotalOrder row_cmp
row_total = then_total (on_total (λ (r : Row). r.0.items) nat_list_cmp_total) (on_total (λ (r : Row). r.1.0) (back_total nat_cmp_total))

far : (rows : List Row) (j k : ℕ) (r s : Row) → IsSorted row_cmp rows → j ≤ k → slice_get rows j ≡ Some r → slice_get rows k ≡ Some s → is_lt (row_cmp s r) ≡ false
far rows j k r s up l at_j at_k =
    let a : get_or rows j r ≡ r = get_or_from_slice_get rows j r r at_j in
    let b : get_or rows k r ≡ s = get_or_from_slice_get rows k s r at_k in
    let f = sorted_far (λ x y. is_lt (row_cmp x y)) (ranks_by row_total (λ x. x)) rows up j k r l (slice_get_within rows k s at_k) in
    ap (λ y. is_lt (row_cmp y r)) (sym b) ∙ ap (λ y. is_lt (row_cmp (get_or rows k r) y)) (sym a) ∙ f

reverse_not_greater : (o s : Ordering) → is_lt (ordering_then o s) ≡ false → is_gt (ordering_reverse o) ≡ false
reverse_not_greater Less s h = absurd (true_or_false true refl h)
reverse_not_greater Equal s h = refl
reverse_not_greater Greater s h = refl

at_most_if_not_less : (a b : ℕ) (o : Ordering) → o ≡ nat_cmp a b → is_lt o ≡ false → b ≤ a
at_most_if_not_less a b Less e h = absurd (true_or_false true refl h)
at_most_if_not_less a b Equal e h = let l : a ≡ b = ranked a b Equal e in omega arith
at_most_if_not_less a b Greater e h = let l : b < a = ranked a b Greater e in omega arith

rises : (rows : List Row) → IsSorted row_cmp rows → Rise (texts_of rows)
rises rows up j k u v l at_j at_k =
    let r = row_at (λ r. r.0.items) rows j u at_j in
    let s = row_at (λ r. r.0.items) rows k v at_k in
    let f = far rows j k r.0 s.0 up l r.1 s.1 in
    let t : is_gt (slice_cmp nat_cmp r.0.0.items s.0.0.items) ≡ false = ap is_gt (nat_list_cmp_total.antisymm r.0.0.items s.0.0.items) ∙ reverse_not_greater (slice_cmp nat_cmp s.0.0.items r.0.0.items) (nat_cmp r.0.1.0 s.0.1.0) f in
    ap (λ y. is_gt (slice_cmp nat_cmp y v)) (sym r.2) ∙ ap (λ y. is_gt (slice_cmp nat_cmp r.0.0.items y)) (sym s.2) ∙ t

ties_fall : (rows : List Row) → IsSorted row_cmp rows → TiesFall (texts_of rows) (numbers_of rows)
ties_fall rows up j k a b u l text_j text_k at_j at_k =
    let r = row_at (λ r. r.0.items) rows j u text_j in
    let s = row_at (λ r. r.0.items) rows k u text_k in
    let p = row_at (λ r. r.1.0) rows j a at_j in
    let q = row_at (λ r. r.1.0) rows k b at_k in
    let f : is_lt (row_cmp s.0 r.0) ≡ false = far rows j k r.0 s.0 up (omega arith) r.1 s.1 in
    let pr : Some p.0 ≡ Some r.0 = sym p.1 ∙ r.1 in
    let qs : Some q.0 ≡ Some s.0 = sym q.1 ∙ s.1 in
    let same_r : p.0 ≡ r.0 = cc in
    let same_s : q.0 ≡ s.0 = cc in
    let na : r.0.1.0 ≡ a = ap (λ (y : Row). y.1.0) (sym same_r) ∙ p.2 in
    let nb : s.0.1.0 ≡ b = ap (λ (y : Row). y.1.0) (sym same_s) ∙ q.2 in
    let level : slice_cmp nat_cmp s.0.0.items r.0.0.items ≡ Equal = ap (λ y. slice_cmp nat_cmp y r.0.0.items) s.2 ∙ ap (λ y. slice_cmp nat_cmp u y) r.2 ∙ tied_itself nat_list_cmp_total u in
    let g : is_lt (nat_cmp r.0.1.0 s.0.1.0) ≡ false = ap (λ o. is_lt (ordering_then o (nat_cmp r.0.1.0 s.0.1.0))) (sym level) ∙ f in
    let down : s.0.1.0 ≤ r.0.1.0 = at_most_if_not_less r.0.1.0 s.0.1.0 (nat_cmp r.0.1.0 s.0.1.0) refl g in
    omega (arith, down, na, nb)

-- a row in its place among the numbered ones
abbrev IsItsString : List (List ℕ) → Row → Type 0
IsItsString strings r = slice_get strings r.1.0 ≡ Some r.0.items

rows_have_their_strings : (strings : List (List ℕ)) (rows : List Row) → texts_of rows ≡ strings → AreOwn (numbers_of rows) → All (IsItsString strings) rows
rows_have_their_strings strings rows texts own k d l =
    let r = get_or rows k d in
    let at : slice_get rows k ≡ Some r = slice_get-get_or rows k d l in
    let n : length (numbers_of rows) ≡ length rows = length-map rows (λ r. r.1.0) in
    let number : r.1.0 ≡ k = sym (get_or_from_slice_get (numbers_of rows) k r.1.0 0 (part_at (λ r. r.1.0) rows k r at)) ∙ own k (omega (arith, l, n)) in
    ap (slice_get strings) number ∙ ap (λ ss. slice_get ss k) (sym texts) ∙ part_at (λ r. r.0.items) rows k r at

pub rows_are : (strings : List (List ℕ)) (rows sorted : List Row) → texts_of rows ≡ strings → AreOwn (numbers_of rows) → IsPermutation rows sorted → IsSorted row_cmp sorted → AreRows strings (texts_of sorted) (numbers_of sorted)
rows_are strings rows sorted texts own moved up = record {
  rise = rises sorted up;
  ties = ties_fall sorted up;
  listed = λ k i u at_text at_number.
      let r = row_at (λ r. r.0.items) sorted k u at_text in
      let s = row_at (λ r. r.1.0) sorted k i at_number in
      let rs : Some s.0 ≡ Some r.0 = sym s.1 ∙ r.1 in
      let same : s.0 ≡ r.0 = cc in
      let number : r.0.1.0 ≡ i = ap (λ (y : Row). y.1.0) (sym same) ∙ s.2 in
      let here : get_or sorted k r.0 ≡ r.0 = get_or_from_slice_get sorted k r.0 r.0 r.1 in
      let p : IsItsString strings (get_or sorted k r.0) = All-permutation (IsItsString strings) rows sorted moved (rows_have_their_strings strings rows texts own) k r.0 (slice_get_within sorted k r.0 r.1) in
      let p2 : slice_get strings r.0.1.0 ≡ Some r.0.0.items = ap (λ (y : Row). slice_get strings y.1.0) (sym here) ∙ p ∙ ap (λ (y : Row). Some y.0.items) here in
      ap (slice_get strings) (sym number) ∙ p2 ∙ ap Some r.2;
  all = λ i u at.
      let r = row_at (λ r. r.0.items) rows i u (ap (λ ss. slice_get ss i) texts ∙ at) in
      let inside : i < length rows = slice_get_within rows i r.0 r.1 in
      let n : length (numbers_of rows) ≡ length rows = length-map rows (λ r. r.1.0) in
      let number : r.0.1.0 ≡ i = sym (get_or_from_slice_get (numbers_of rows) i r.0.1.0 0 (part_at (λ r. r.1.0) rows i r.0 r.1)) ∙ own i (omega (arith, inside, n)) in
      let has : Contains rows r.0 = (i, inside, get_or_from_slice_get rows i r.0 r.0 r.1) in
      let c = Contains-permutation rows sorted r.0 moved has in
      let there : slice_get sorted c.0 ≡ Some r.0 = slice_get-get_or sorted c.0 r.0 c.1 ∙ ap Some c.2 in
      (c.0, part_at (λ r. r.0.items) sorted c.0 r.0 there ∙ ap Some r.2, part_at (λ r. r.1.0) sorted c.0 r.0 there ∙ ap Some number);
}

-- what stands beside a row that the binary search has looked at
pub before_middle : (texts : List (List ℕ)) (x w : List ℕ) (m : ℕ) → Rise texts → slice_get texts m ≡ Some w → is_gt (slice_cmp nat_cmp w x) ≡ false → (j : ℕ) (v : List ℕ) → j ≤ m → slice_get texts j ≡ Some v → is_gt (slice_cmp nat_cmp v x) ≡ false
before_middle texts x w m rise at not j v l s = upto nat_list_cmp_total v w x (rise j m v w l s at) not

by_answer : (b : Bool) → (b ≡ false → ⊥) → b ≡ true
by_answer true f = refl
by_answer false f = absurd (f refl)

pub after_middle : (texts : List (List ℕ)) (x w : List ℕ) (m : ℕ) → Rise texts → slice_get texts m ≡ Some w → is_gt (slice_cmp nat_cmp w x) ≡ true → (j : ℕ) (v : List ℕ) → m ≤ j → slice_get texts j ≡ Some v → is_gt (slice_cmp nat_cmp v x) ≡ true
after_middle texts x w m rise at after j v l s =
    by_answer (is_gt (slice_cmp nat_cmp v x)) (λ h. true_or_false _ after (upto nat_list_cmp_total w v x (rise m j w v l at s) h))
