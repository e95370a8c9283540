-- The pairs of one stem stand together.
use Rattle.std.proofs.Common.{map, ◌≡◌, ◌∙◌, ◌&&◌, ◌∷◌, ℕ, Bool, true, false, cond, List, [], Result, Ok, Err, IfOk, is_le, is_eq, slice_index_or, refl, sym, ap, subst}
use Rattle.std.specs.List.{All, AllByRecursion, filter}
use Rattle.std.specs.List.Sorted.{IsStrictlySortedBy}
use Rattle.std.specs.Str.{bytes_eq}
use Rattle.std.specs.Ordering.{ordering_then}
use Rattle.std.specs.declared.cmp.Ordering.{Ordering}
use Rattle.std.specs.declared.cmp.Ordering.TheVariants.{Less, Equal, Greater}
use Rattle.std.specs.BTreeSet.{BTreeSet}
use Rattle.std.specs.BTreeMap.Range.{range_contains}
use Rattle.std.specs.declared.ops.Bound.TheVariants.{Included, Unbounded}
use Rattle.std.proofs.lemmas.Cmp.{nat_list_cmp_total}
use Rattle.std.proofs.lemmas.List.Kept.{IsStrictlySortedBy-filter}
use Rattle.std.proofs.lemmas.List.Folds.{list_any_at}
use Rattle.std.proofs.lemmas.Map.Lookups.{exact_bytes}
use Rattle.std.proofs.lemmas.Map.Text.{is_eq-slice_cmp}
use Rattle.std.proofs.lemmas.Slice.Eq.{bytes_eq-Decides}
use Rattle.sbl_rows.specs.Classes.{members_of}
use Rattle.sbl_rows.specs.Grouping.{pair_cmp}
use Rattle.sbl_rows.specs.Pairs.{Key, has, key_cmp, plain}
use Rattle.sbl_rows.proofs.OrderFacts.{exact, text_cmp, total}
use Rattle.sbl_rows.proofs.Sorting.{self_equal}

-- a clause of a result, by a stronger one
pub if_ok_weaker : {T E : Type 0} {P Q : T → Type 0} (r : Result T E) → ((v : T) → P v → Q v) → IfOk r P → IfOk r Q
if_ok_weaker (Ok v) f h = f v h
if_ok_weaker (Err e) f h = tt

-- a set has its own keys
pub own_keys : (set : BTreeSet Key) → All (λ k. has set k ≡ true) set.keys
own_keys set = λ k d h.
    let q = slice_index_or set.keys k d in
    list_any_at (λ x. is_eq (key_cmp q x)) set.keys k d h (ap is_eq (self_equal pair_cmp total exact (plain q)))

abbrev pub from : Key → Key → Bool
from first k = range_contains key_cmp (Included first) Unbounded k

and_true : (a : Bool) → (a && true) ≡ a
and_true true = refl
and_true false = refl

-- a pair of the stem is not before the first
stem_from : (stem : List ℕ) (first : Key) → first.0.items ≡ stem → first.1.items ≡ [] → (k : Key) → bytes_eq stem k.0.items ≡ true → from first k ≡ true
stem_from stem first is none k h =
    let same : first.0.items ≡ k.0.items = is ∙ (bytes_eq-Decides stem k.0.items).0 h in
    let tied : text_cmp first.0.items k.0.items ≡ Equal = ap (λ (x : List ℕ). text_cmp x k.0.items) same ∙ self_equal text_cmp nat_list_cmp_total exact_bytes k.0.items in
    ap (λ (o : Ordering). is_le (ordering_then o (text_cmp first.1.items k.1.items)) && true) tied ∙ ap (λ (x : List ℕ). is_le (text_cmp x k.1.items) && true) none ∙ least k.1.items
  where
    least : (xs : List ℕ) → (is_le (text_cmp [] xs) && true) ≡ true
    least [] = refl
    least (x ∷ xs) = refl

-- the words with the stem are all in the range
pub words_from : (stem : List ℕ) (first : Key) → first.0.items ≡ stem → first.1.items ≡ [] → (ks : List Key)
    → members_of stem (map plain (filter (from first) ks)) ≡ members_of stem (map plain ks)
words_from stem first is none [] = refl
words_from stem first is none (k ∷ ks) = by (from first k) refl (bytes_eq stem k.0.items) refl (words_from stem first is none ks)
  where
    by : (t : Bool) → from first k ≡ t → (b : Bool) → bytes_eq stem k.0.items ≡ b → members_of stem (map plain (filter (from first) ks)) ≡ members_of stem (map plain ks)
        → members_of stem (map plain (cond t (k ∷ filter (from first) ks) (filter (from first) ks))) ≡ members_of stem (map plain (k ∷ ks))
    by true f true h rest = rw (h) (ap (λ (l : List (List ℕ)). k.1.items ∷ l) rest)
    by true f false h rest = rw (h) rest
    by false f true h rest = cc (sym f ∙ stem_from stem first is none k h)
    by false f false h rest = rw (h) rest

-- no stem of the keys is below this one
abbrev pub NotBelow : List ℕ → List Key → Type 0
NotBelow stem ks = AllByRecursion (λ (k : Key). text_cmp stem k.0.items ≡ Greater → ⊥) ks

range_above : (stem : List ℕ) (first : Key) → first.0.items ≡ stem → (ks : List Key) → NotBelow stem (filter (from first) ks)
range_above stem first is [] = tt
range_above stem first is (k ∷ ks) = by (from first k) refl (range_above stem first is ks)
  where
    not_greater : (o r : Ordering) → (is_le (ordering_then o r) && true) ≡ true → o ≡ Greater → ⊥
    not_greater Less r h e = cc e
    not_greater Equal r h e = cc e
    not_greater Greater r h e = cc h

    by : (t : Bool) → from first k ≡ t → NotBelow stem (filter (from first) ks) → NotBelow stem (cond t (k ∷ filter (from first) ks) (filter (from first) ks))
    by true f rest = (λ e. not_greater (text_cmp first.0.items k.0.items) (text_cmp first.1.items k.1.items) f (ap (λ (x : List ℕ). text_cmp x k.0.items) is ∙ e), rest)
    by false f rest = rest

-- keys in order, of which none is below the stem
pub record AreFrom (stem : List ℕ) (ks : List Key) : Type 0 where
  pub rise : IsStrictlySortedBy key_cmp ks
  pub above : NotBelow stem ks

pub range_from : (stem : List ℕ) (first : Key) → first.0.items ≡ stem → (ks : List Key) → IsStrictlySortedBy key_cmp ks → AreFrom stem (filter (from first) ks)
range_from stem first is ks sorted = record { rise = IsStrictlySortedBy-filter key_cmp (from first) ks sorted; above = range_above stem first is ks }

pub from_later : (stem : List ℕ) (ks rest : List Key) (k : Key) → ks ≡ k ∷ rest → AreFrom stem ks → AreFrom stem rest
unfolding IsStrictlySortedBy
from_later stem ks rest k split a =
    let b : AreFrom stem (k ∷ rest) = subst (AreFrom stem) split a in
    record { rise = b.rise.1; above = b.above.1 }

-- a pair of the stem gives its word
pub one_paired : (stem : List ℕ) (ks rest : List Key) (k : Key) → ks ≡ k ∷ rest → bytes_eq stem k.0.items ≡ true → k.1.items ∷ members_of stem (map plain rest) ≡ members_of stem (map plain ks)
one_paired stem ks rest k split same = sym (ap (λ (l : List Key). members_of stem (map plain l)) split ∙ rw same refl)

-- after a pair of another stem there is none of this one
pub none_later : (stem : List ℕ) (ks rest : List Key) (k : Key) → ks ≡ k ∷ rest → AreFrom stem ks → bytes_eq stem k.0.items ≡ false → members_of stem (map plain ks) ≡ []
unfolding IsStrictlySortedBy
none_later stem ks rest k split a other = ap (λ (l : List Key). members_of stem (map plain l)) split ∙ rw other (later rest b.rise.0)
  where
    b : AreFrom stem (k ∷ rest)
    b = subst (AreFrom stem) split a

    less : (o : Ordering) → text_cmp stem k.0.items ≡ o → text_cmp stem k.0.items ≡ Less
    less Less e = e
    less Equal e = let r = sym (is_eq-slice_cmp stem k.0.items ∙ other) ∙ ap is_eq e in cc r
    less Greater e = absurd (b.above.0 e)

    beyond : (q : Key) → (o : Ordering) → text_cmp k.0.items q.0.items ≡ o → ordering_then o (text_cmp k.1.items q.1.items) ≡ Less → bytes_eq stem q.0.items ≡ false
    beyond q Less e h = sym (is_eq-slice_cmp stem q.0.items) ∙ ap is_eq (nat_list_cmp_total.trans stem k.0.items q.0.items (less (text_cmp stem k.0.items) refl) e)
    beyond q Equal e h = ap (λ (x : List ℕ). bytes_eq stem x) (sym (exact_bytes k.0.items q.0.items e)) ∙ other
    beyond q Greater e h = cc h

    later : (qs : List Key) → AllByRecursion (λ y. key_cmp k y ≡ Less) qs → members_of stem (map plain qs) ≡ []
    later [] a = refl
    later (q ∷ qs) a = rw (beyond q (text_cmp k.0.items q.0.items) refl a.0) (later qs a.1)
