-- Strings of amongs with numbers of words: what one more adds.
use Rattle.std.proofs.Common.{◌≡◌, ◌∙◌, ◌+◌, ◌&&◌, ◌||◌, ℕ, Bool, true, false, cond, List, [], ◌∷◌, map, length, nat_eq, refl, sym, ap, subst, arith}
use Rattle.std.proofs.lemmas.Bool.Decides.{nat_tests}
use Rattle.std.proofs.lemmas.Slice.Eq.{bytes_eq-Decides}
use Rattle.std.specs.BTreeMap.{insert_entry, is_at}
use Rattle.std.specs.List.{AllByRecursion, filter, list_any}
use Rattle.std.specs.List.Sorted.{IsStrictlySortedBy}
use Rattle.std.specs.Map.{lookup}
use Rattle.std.specs.Ordering.{is_eq, match_ordering}
use Rattle.std.specs.declared.cmp.Ordering.{Ordering}
use Rattle.std.specs.declared.cmp.Ordering.TheVariants.{Less, Equal, Greater}
use Rattle.sbl_semantics.specs.TouchedItems.{same_item}
use Rattle.sbl_ast.specs.NamedParts.{Part', Routine, Among, Grouping}
use Rattle.sbl_uses.specs.TakeNumbers.{number_in, one_if}
use Rattle.sbl_uses.specs.Used.{Take, same_take}
use Rattle.sbl_uses.specs.UnusedViews.{Key, take_of}
use Rattle.sbl_uses.proofs.Sets.{key_order, take_held}
use Rattle.sbl_uses.proofs.Unions.{or_last}

-- ---- two strings are the same exactly if their amongs and their characters are

both_true : (a b : Bool) → (a && b) ≡ true → (a ≡ true) × (b ≡ true)
both_true true true h = (refl, refl)
both_true true false h = cc h
both_true false b h = cc h

same_item_is : (x y : Part') → same_item x y ≡ true → x ≡ y
same_item_is (Routine m) (Routine n) h = ap Routine ((bytes_eq-Decides m n).0 h)
same_item_is (Among m k) (Among n l) h =
    let both = both_true _ _ h in
    let number : k ≡ l = grind (arith, nat_tests, both.1) in
    λ i. Among ((bytes_eq-Decides m n).0 both.0 i) (number i)
same_item_is (Grouping m) (Grouping n) h = ap Grouping ((bytes_eq-Decides m n).0 h)
same_item_is (Routine m) (Among n l) h = cc h
same_item_is (Routine m) (Grouping n) h = cc h
same_item_is (Among m k) (Routine n) h = cc h
same_item_is (Among m k) (Grouping n) h = cc h
same_item_is (Grouping m) (Routine n) h = cc h
same_item_is (Grouping m) (Among n l) h = cc h

pub same_take_is : (t u : Take) → same_take t u ≡ true → t ≡ u
same_take_is t u h =
    let both = both_true (same_item t.0 u.0) _ h in
    λ i. (same_item_is t.0 u.0 both.0 i, (bytes_eq-Decides t.1 u.1).0 both.1 i)

-- the order of the code's values finds two equal exactly if they are the same
at_take : (q k : Key) → is_eq (key_order q k) ≡ same_take (take_of q) (take_of k)
at_take q k = sym (or_last (is_eq (key_order q k))) ∙ take_held q (k ∷ []) ∙ or_last (same_take (take_of q) (take_of k))

-- the entry that the code finds has the number
pub looked_up : (q : Key) (es : List (Key × ℕ)) → lookup (is_at (key_order q)) es ≡ lookup (λ (k : Key). same_take (take_of q) (take_of k)) es
looked_up q [] = refl
looked_up q (e ∷ es) = rw (at_take q e.0, looked_up q es) refl

-- ---- one number is put

pub number_put : (es : List (Key × ℕ)) (k : Key) (n : ℕ) (t : Take) → number_in (insert_entry key_order es k n) t ≡ cond (same_take t (take_of k)) n (number_in es t)
number_put [] k n t = by (same_take t (take_of k)) refl
  where
    by : (b : Bool) → same_take t (take_of k) ≡ b → number_in ((k, n) ∷ []) t ≡ cond (same_take t (take_of k)) n 0
    by true h = rw h refl
    by false h = rw h refl
number_put (e ∷ es) k n t = by (key_order k e.0) refl (same_take t (take_of k)) refl (same_take t (take_of e.0)) refl (number_put es k n t)
  where
    apart : key_order k e.0 ≡ Greater → same_take t (take_of k) ≡ true → same_take t (take_of e.0) ≡ true → ⊥
    apart o h g =
        let same : same_take (take_of k) (take_of e.0) ≡ true = subst (λ (u : Take). same_take u (take_of e.0) ≡ true) (same_take_is t (take_of k) h) g in
        let never : is_eq (key_order k e.0) ≡ true = at_take k e.0 ∙ same in
        let eq : is_eq Greater ≡ true = subst (λ (r : Ordering). is_eq r ≡ true) o never in
        cc eq

    same_key : key_order k e.0 ≡ Equal → same_take t (take_of e.0) ≡ same_take t (take_of k)
    same_key o =
        let same : same_take (take_of k) (take_of e.0) ≡ true = sym (at_take k e.0) ∙ ap is_eq o in
        ap (same_take t) (sym (same_take_is (take_of k) (take_of e.0) same))

    by : (o : Ordering) → key_order k e.0 ≡ o → (b : Bool) → same_take t (take_of k) ≡ b → (d : Bool) → same_take t (take_of e.0) ≡ d
        → number_in (insert_entry key_order es k n) t ≡ cond (same_take t (take_of k)) n (number_in es t)
        → number_in (match_ordering (key_order k e.0) ((k, n) ∷ e ∷ es) ((e.0, n) ∷ es) (e ∷ insert_entry key_order es k n)) t ≡ cond (same_take t (take_of k)) n (number_in (e ∷ es) t)
    by Less o true h d g rest = rw (o, h) refl
    by Less o false h d g rest = rw (o, h) refl
    by Equal o true h d g rest = rw (o, h, same_key o ∙ h) refl
    by Equal o false h d g rest = rw (o, h, same_key o ∙ h) refl
    by Greater o true h true g rest = absurd (apart o h g)
    by Greater o true h false g rest = rw (o, h, g) (rest ∙ rw h refl)
    by Greater o false h true g rest = rw (o, h, g) refl
    by Greater o false h false g rest = rw (o, h, g) (rest ∙ rw h refl)

-- a number that grows by one
pub number_grown : (es : List (Key × ℕ)) (k : Key) (n : ℕ) (t : Take) → n ≡ number_in es (take_of k) + 1 → number_in (insert_entry key_order es k n) t ≡ number_in es t + one_if (same_take t (take_of k))
number_grown es k n t is = by (same_take t (take_of k)) refl (number_put es k n t)
  where
    by : (b : Bool) → same_take t (take_of k) ≡ b → number_in (insert_entry key_order es k n) t ≡ cond (same_take t (take_of k)) n (number_in es t)
        → number_in (insert_entry key_order es k n) t ≡ number_in es t + one_if (same_take t (take_of k))
    by true h put =
        let same : number_in es (take_of k) ≡ number_in es t = ap (number_in es) (sym (same_take_is t (take_of k) h)) in
        put ∙ rw h (is ∙ ap (λ (m : ℕ). m + 1) same)
    by false h put = put ∙ rw h (omega arith)

-- ---- each of some strings counts once

-- whether a string is one of some
abbrev pub one_among : List Key → Take → ℕ
one_among ks t = one_if (list_any (same_take t) (map take_of ks))

none_after : (k : Key) (ks : List Key) → AllByRecursion (λ y. key_order k y ≡ Less) ks → list_any (same_take (take_of k)) (map take_of ks) ≡ false
none_after k [] less = refl
none_after k (j ∷ ks) less =
    let other : same_take (take_of k) (take_of j) ≡ false = sym (at_take k j) ∙ ap is_eq less.0 in
    rw other (none_after k ks less.1)

-- numbers that are added one after another
pub put_right : (a b c : ℕ) → (a + b) + c ≡ a + (b + c)
put_right a b c = omega arith

-- the first of strings in order is none of the others
pub one_first : (k : Key) (ks : List Key) (t : Take) → IsStrictlySortedBy key_order (k ∷ ks) → one_if (same_take t (take_of k)) + one_among ks t ≡ one_among (k ∷ ks) t
unfolding IsStrictlySortedBy
one_first k ks t sorted = by (same_take t (take_of k)) refl
  where
    by : (b : Bool) → same_take t (take_of k) ≡ b → one_if (same_take t (take_of k)) + one_among ks t ≡ one_among (k ∷ ks) t
    by true h =
        let none : list_any (same_take t) (map take_of ks) ≡ false = ap (λ (u : Take). list_any (same_take u) (map take_of ks)) (same_take_is t (take_of k) h) ∙ none_after k ks sorted.0 in
        rw (h, none) refl
    by false h = rw h (omega arith)

pub rest_sorted : (k : Key) (ks : List Key) → IsStrictlySortedBy key_order (k ∷ ks) → IsStrictlySortedBy key_order ks
unfolding IsStrictlySortedBy
rest_sorted k ks sorted = sorted.1

-- ---- the number of words

pub number_more : (test : List ℕ → Bool) (w : List ℕ) (words : List (List ℕ)) → length (filter test (w ∷ words)) ≡ one_if (test w) + length (filter test words)
number_more test w words = by (test w)
  where
    by : (b : Bool) → length (cond b (w ∷ filter test words) (filter test words)) ≡ one_if b + length (filter test words)
    by true = omega arith
    by false = omega arith
