-- Texts in order: the same texts have one order, and texts in order stay as they are.
use Rattle.std.proofs.Common.{◌≡◌, ◌∙◌, ◌||◌, ◌&&◌, Bool, true, false, ℕ, List, [], ◌∷◌, map, cond, refl, sym, ap}
use Rattle.std.specs.List.{AllByRecursion, filter, fold, list_any}
use Rattle.std.specs.List.Sorted.{IsStrictlySortedBy}
use Rattle.std.specs.Cmp.{IsTotalOrder}
use Rattle.std.specs.Cmp.Lexicographic.{slice_cmp}
use Rattle.std.specs.declared.cmp.Ordering.{Ordering}
use Rattle.std.specs.declared.cmp.Ordering.TheVariants.{Less, Equal, Greater}
use Rattle.std.specs.Ordering.{is_eq, nat_cmp, ordering_then}
use Rattle.std.specs.Str.{bytes_eq}
use Rattle.std.specs.BTreeSet.{insert_key}
use Rattle.std.proofs.lemmas.Cmp.{nat_list_cmp_total, on_total, then_total}
use Rattle.std.proofs.lemmas.Map.Lookups.{CmpEqualImpliesEq, btree_set_from_contains, exact_bytes, exact_pairs}
use Rattle.std.proofs.lemmas.Map.Text.{is_eq-slice_cmp}
use Rattle.std.proofs.lemmas.Slice.Eq.{bytes_eq-Decides}
use Rattle.sbl_rows.specs.Classes.{Pair, in_order, members_of}
use Rattle.sbl_rows.specs.Grouping.{pair_cmp, pairs_in_order}
use Rattle.sbl_rows.specs.Counting.{put_texts}
use Rattle.sbl_rows.proofs.Putting.{mem-put, or_false, put-sorted}
use Rattle.sbl_rows.proofs.Sorting.{any_inserted, first_below, mem, sorted-insert}

pub total : IsTotalOrder pair_cmp
total = then_total (on_total (λ (p : Pair). p.0) nat_list_cmp_total) (on_total (λ (p : Pair). p.1) nat_list_cmp_total)

pub exact : CmpEqualImpliesEq pair_cmp
exact = exact_pairs (slice_cmp nat_cmp) (slice_cmp nat_cmp) exact_bytes exact_bytes

abbrev pub text_cmp : List ℕ → List ℕ → Ordering
text_cmp = slice_cmp nat_cmp

-- ---- texts in order

pub in_order-sorted : (ts : List (List ℕ)) → IsStrictlySortedBy text_cmp (in_order ts)
unfolding IsStrictlySortedBy
in_order-sorted [] = tt
in_order-sorted (t ∷ ts) = sorted-insert text_cmp nat_list_cmp_total exact_bytes (in_order ts) t (in_order-sorted ts)

pub any-in_order : (test : List ℕ → Bool) (ts : List (List ℕ)) → list_any test (in_order ts) ≡ list_any test ts
any-in_order test [] = refl
any-in_order test (t ∷ ts) = any_inserted text_cmp nat_list_cmp_total exact_bytes test (in_order ts) t ∙ ap (λ (b : Bool). test t || b) (any-in_order test ts)

pub one_order : (xs ys : List (List ℕ)) → ((q : List ℕ) → mem text_cmp q xs ≡ mem text_cmp q ys) → in_order xs ≡ in_order ys
one_order xs ys same =
    btree_set_from_contains nat_list_cmp_total (record { keys = in_order xs }) (record { keys = in_order ys }) (in_order-sorted xs) (in_order-sorted ys)
    (λ q. any-in_order (λ x. is_eq (text_cmp q x)) xs ∙ same q ∙ sym (any-in_order (λ x. is_eq (text_cmp q x)) ys)) exact_bytes

pub in_order-stays : (ts : List (List ℕ)) → IsStrictlySortedBy text_cmp ts → in_order ts ≡ ts
unfolding IsStrictlySortedBy
in_order-stays [] s = refl
in_order-stays (t ∷ ts) s = ap (λ (l : List (List ℕ)). insert_key text_cmp l t) (in_order-stays ts s.1) ∙ first_below text_cmp nat_list_cmp_total exact_bytes t ts s.0

-- ---- the pairs in order have the same stems, and the same members with a stem

pub any-sorted : (test : Pair → Bool) (ps : List Pair) → list_any test (pairs_in_order ps) ≡ list_any test ps
any-sorted test [] = refl
any-sorted test (p ∷ ps) = any_inserted pair_cmp total exact test (pairs_in_order ps) p ∙ ap (λ (b : Bool). test p || b) (any-sorted test ps)

pub any-stems : (test : List ℕ → Bool) (ps : List Pair) → list_any test (map (λ p. p.0) ps) ≡ list_any (λ p. test p.0) ps
any-stems test [] = refl
any-stems test (p ∷ ps) = ap (λ (b : Bool). test p.0 || b) (any-stems test ps)

pub any-members : (test : List ℕ → Bool) (stem : List ℕ) (ps : List Pair) → list_any test (members_of stem ps) ≡ list_any (λ p. bytes_eq stem p.0 && test p.1) ps
any-members test stem [] = refl
any-members test stem (p ∷ ps) = by (bytes_eq stem p.0) (any-members test stem ps)
  where
    by : (b : Bool) → list_any test (members_of stem ps) ≡ list_any (λ p. bytes_eq stem p.0 && test p.1) ps
        → list_any test (map (λ p. p.1) (cond b (p ∷ filter (λ p. bytes_eq stem p.0) ps) (filter (λ p. bytes_eq stem p.0) ps))) ≡ ((b && test p.1) || list_any (λ p. bytes_eq stem p.0 && test p.1) ps)
    by true rest = ap (λ (b : Bool). test p.1 || b) rest
    by false rest = rest

pub stems-sorted : (ps : List Pair) → in_order (map (λ p. p.0) (pairs_in_order ps)) ≡ in_order (map (λ p. p.0) ps)
stems-sorted ps =
    one_order (map (λ p. p.0) (pairs_in_order ps)) (map (λ p. p.0) ps)
    (λ q. any-stems (λ x. is_eq (text_cmp q x)) (pairs_in_order ps) ∙ any-sorted (λ p. is_eq (text_cmp q p.0)) ps ∙ sym (any-stems (λ x. is_eq (text_cmp q x)) ps))

members-sorted : (stem : List ℕ) (ps : List Pair) → in_order (members_of stem (pairs_in_order ps)) ≡ in_order (members_of stem ps)
members-sorted stem ps =
    one_order (members_of stem (pairs_in_order ps)) (members_of stem ps)
    (λ q. any-members (λ x. is_eq (text_cmp q x)) stem (pairs_in_order ps) ∙ any-sorted (λ p. bytes_eq stem p.0 && is_eq (text_cmp q p.1)) ps ∙ sym (any-members (λ x. is_eq (text_cmp q x)) stem ps))

-- the members with a stem are in order if the pairs are
members_rise : (stem : List ℕ) (ps : List Pair) → IsStrictlySortedBy pair_cmp ps → IsStrictlySortedBy text_cmp (members_of stem ps)
unfolding IsStrictlySortedBy
members_rise stem [] s = tt
members_rise stem (p ∷ ps) s = by (bytes_eq stem p.0) refl (members_rise stem ps s.1)
  where
    second : (o r : Ordering) → o ≡ Equal → ordering_then o r ≡ Less → r ≡ Less
    second Less r e h = cc e
    second Equal r e h = h
    second Greater r e h = cc h

    same_stem : (q : Pair) → bytes_eq stem p.0 ≡ true → bytes_eq stem q.0 ≡ true → text_cmp p.0 q.0 ≡ Equal
    same_stem q e f = tied (text_cmp p.0 q.0) (is_eq-slice_cmp p.0 q.0 ∙ (bytes_eq-Decides p.0 q.0).1 (sym ((bytes_eq-Decides stem p.0).0 e) ∙ (bytes_eq-Decides stem q.0).0 f))
      where
        tied : (o : Ordering) → is_eq o ≡ true → o ≡ Equal
        tied Less h = cc h
        tied Equal h = refl
        tied Greater h = cc h

    later : bytes_eq stem p.0 ≡ true → (qs : List Pair) → AllByRecursion (λ q. pair_cmp p q ≡ Less) qs → AllByRecursion (λ w. text_cmp p.1 w ≡ Less) (members_of stem qs)
    later e [] a = tt
    later e (q ∷ qs) a = at (bytes_eq stem q.0) refl (later e qs a.1)
      where
        at : (b : Bool) → bytes_eq stem q.0 ≡ b → AllByRecursion (λ w. text_cmp p.1 w ≡ Less) (members_of stem qs)
            → AllByRecursion (λ w. text_cmp p.1 w ≡ Less) (map (λ q. q.1) (cond (bytes_eq stem q.0) (q ∷ filter (λ q. bytes_eq stem q.0) qs) (filter (λ q. bytes_eq stem q.0) qs)))
        at true f rest = rw f (second (text_cmp p.0 q.0) (text_cmp p.1 q.1) (same_stem q e f) a.0, rest)
        at false f rest = rw f rest

    by : (b : Bool) → bytes_eq stem p.0 ≡ b → IsStrictlySortedBy text_cmp (members_of stem ps)
        → IsStrictlySortedBy text_cmp (map (λ p. p.1) (cond (bytes_eq stem p.0) (p ∷ filter (λ p. bytes_eq stem p.0) ps) (filter (λ p. bytes_eq stem p.0) ps)))
    by true e rest = rw e (later e ps s.0, rest)
    by false e rest = rw e rest

pub sorted-sorted : (ps : List Pair) → IsStrictlySortedBy pair_cmp (pairs_in_order ps)
unfolding IsStrictlySortedBy
sorted-sorted [] = tt
sorted-sorted (p ∷ ps) = sorted-insert pair_cmp total exact (pairs_in_order ps) p (sorted-sorted ps)

pub bytes_eq-back : (x y : List ℕ) → bytes_eq x y ≡ bytes_eq y x
bytes_eq-back x y = both (bytes_eq x y) (bytes_eq y x) (λ e. (bytes_eq-Decides y x).1 (sym ((bytes_eq-Decides x y).0 e))) (λ e. (bytes_eq-Decides x y).1 (sym ((bytes_eq-Decides y x).0 e)))
  where
    both : (a b : Bool) → (a ≡ true → b ≡ true) → (b ≡ true → a ≡ true) → a ≡ b
    both true b f g = sym (f refl)
    both false true f g = g refl
    both false false f g = refl

-- the members with a stem among the pairs in order
pub members-in_order : (stem : List ℕ) (pairs : List Pair) → members_of stem (pairs_in_order pairs) ≡ in_order (members_of stem pairs)
members-in_order stem pairs =
    sym (in_order-stays (members_of stem (pairs_in_order pairs)) (members_rise stem (pairs_in_order pairs) (sorted-sorted pairs)))
    ∙ members-sorted stem pairs

-- ---- pairs, and texts, that are put in from the first on

abbrev pub put_in : List Pair → List Pair → List Pair
put_in keys more = fold (insert_key pair_cmp) keys more

-- the order in which they are put in is all one
pub put_in-all : (pairs : List Pair) → put_in [] pairs ≡ pairs_in_order pairs
unfolding IsStrictlySortedBy
put_in-all pairs =
    btree_set_from_contains total (record { keys = put_in [] pairs }) (record { keys = pairs_in_order pairs }) (put-sorted pair_cmp total exact [] pairs tt) (sorted-sorted pairs)
    (λ q. mem-put pair_cmp total exact q [] pairs ∙ or_false (mem pair_cmp q pairs) ∙ sym (any-sorted (λ x. is_eq (pair_cmp q x)) pairs)) exact

pub put_texts-all : (texts : List (List ℕ)) → put_texts [] texts ≡ in_order texts
unfolding IsStrictlySortedBy
put_texts-all texts =
    btree_set_from_contains nat_list_cmp_total (record { keys = put_texts [] texts }) (record { keys = in_order texts })
    (put-sorted text_cmp nat_list_cmp_total exact_bytes [] texts tt) (in_order-sorted texts)
    (λ q. mem-put text_cmp nat_list_cmp_total exact_bytes q [] texts ∙ or_false (mem text_cmp q texts) ∙ sym (any-in_order (λ x. is_eq (text_cmp q x)) texts)) exact_bytes
