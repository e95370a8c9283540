-- Putting the pairs that are in order one after another makes the classes.
use Rattle.std.proofs.Common.{◌≡◌, ◌∙◌, ◌||◌, ◌++◌, Bool, true, false, ℕ, List, [], ◌∷◌, map, cond, if◌then◌else◌, append-nil, append_assoc, refl, sym, ap, subst}
use Rattle.std.specs.List.{All, AllByRecursion, filter}
use Rattle.std.specs.List.Sorted.{IsStrictlySortedBy}
use Rattle.std.specs.declared.cmp.Ordering.{Ordering}
use Rattle.std.specs.declared.cmp.Ordering.TheVariants.{Less, Equal, Greater}
use Rattle.std.specs.Ordering.{is_eq, match_ordering, ordering_reverse, ordering_then}
use Rattle.std.specs.Str.{bytes_eq}
use Rattle.std.specs.BTreeSet.{insert_key}
use Rattle.std.proofs.lemmas.Cmp.{nat_list_cmp_total}
use Rattle.std.proofs.lemmas.List.Elements.{recursion_from_All, All-nil}
use Rattle.std.proofs.lemmas.Map.Lookups.{exact_bytes}
use Rattle.std.proofs.lemmas.Map.Text.{is_eq-slice_cmp}
use Rattle.std.proofs.lemmas.Map.Views.{All-insert_key}
use Rattle.std.proofs.lemmas.Slice.Eq.{bytes_eq-Decides}
use Rattle.sbl_rows.specs.Classes.{Class, Pair, pair_class, pair_classes, in_order, members_of}
use Rattle.sbl_rows.specs.Counting.{DoNotFall}
use Rattle.sbl_rows.specs.Grouping.{class_sorted, classes_sorted, put_pairs, is_last, pair_cmp, one_member, put_in_last, put_last, pairs_in_order}
use Rattle.sbl_rows.proofs.Sorting.{mem, or_swap}
use Rattle.sbl_rows.proofs.OrderFacts.{any-in_order, in_order-sorted, one_order, members-in_order, sorted-sorted, stems-sorted, text_cmp}

bytes_eq-self : (t : List ℕ) → bytes_eq t t ≡ true
bytes_eq-self t = (bytes_eq-Decides t t).1 refl

-- ---- one more pair, after all members

put_later : (c d : Class) (cs : List Class) (p : Pair) → put_last (c ∷ d ∷ cs) p ≡ c ∷ put_last (d ∷ cs) p
put_later c d cs p = by (is_last p.0 (d ∷ cs))
  where
    by : (b : Bool) → (if b then (c ∷ put_in_last (d ∷ cs) p.1) else (c ∷ d ∷ cs ++ one_member p ∷ [])) ≡ c ∷ (if b then put_in_last (d ∷ cs) p.1 else (d ∷ cs ++ one_member p ∷ []))
    by true = refl
    by false = refl

-- The members of each stem are f's before the pair of t and w is put, and g's after it.
module _ (t w : List ℕ) (f g : List ℕ → List (List ℕ)) (members : (s : List ℕ) → bytes_eq s t ≡ false → g s ≡ f s) (more : g t ≡ f t ++ w ∷ []) where
  abbrev before : List ℕ → Class
  before s = record { stem = s; members = f s }

  abbrev after : List ℕ → Class
  after s = record { stem = s; members = g s }

  -- no stem is above t
  abbrev Below : List ℕ → Type 0
  Below x = text_cmp t x ≡ Less → ⊥

  differs : (x : List ℕ) → text_cmp t x ≡ Greater → bytes_eq x t ≡ false
  differs x e = sym (is_eq-slice_cmp x t) ∙ ap is_eq (nat_list_cmp_total.antisymm x t ∙ ap ordering_reverse e)

  put_after : (ss : List (List ℕ)) → IsStrictlySortedBy text_cmp ss → AllByRecursion Below ss → (mem text_cmp t ss ≡ false → f t ≡ []) → put_last (map before ss) (t, w) ≡ map after (insert_key text_cmp ss t)
  unfolding IsStrictlySortedBy
  put_after [] s below none = λ i. record { stem = t; members = sym (more ∙ ap (λ (l : List (List ℕ)). l ++ w ∷ []) (none refl)) i } ∷ []
  put_after (x ∷ []) s below none = by (text_cmp t x) refl
    where
      new : text_cmp t x ≡ Greater → f t ≡ []
      new e = none (ap (λ (o : Ordering). is_eq o || false) e)

      by : (o : Ordering) → text_cmp t x ≡ o → put_last (before x ∷ []) (t, w) ≡ map after (match_ordering (text_cmp t x) (t ∷ x ∷ []) (x ∷ []) (x ∷ t ∷ []))
      by Less e = absurd (below.0 e)
      by Equal e = rw e (subst (λ y. put_last (before y ∷ []) (t, w) ≡ after y ∷ []) (exact_bytes t x e) (rw (bytes_eq-self t) (λ i. record { stem = t; members = sym more i } ∷ [])))
      by Greater e = rw (e, differs x e)
          (λ i. record { stem = x; members = sym (members x (differs x e)) i } ∷ record { stem = t; members = sym (more ∙ ap (λ (l : List (List ℕ)). l ++ w ∷ []) (new e)) i } ∷ [])
  put_after (x ∷ y ∷ ss) s below none = by (text_cmp t x) refl (put_after (y ∷ ss) s.1 below.1)
    where
      by : (o : Ordering) → text_cmp t x ≡ o
          → ((mem text_cmp t (y ∷ ss) ≡ false → f t ≡ []) → put_last (map before (y ∷ ss)) (t, w) ≡ map after (insert_key text_cmp (y ∷ ss) t))
          → put_last (map before (x ∷ y ∷ ss)) (t, w) ≡ map after (match_ordering (text_cmp t x) (t ∷ x ∷ y ∷ ss) (x ∷ y ∷ ss) (x ∷ insert_key text_cmp (y ∷ ss) t))
      by Less e rest = absurd (below.0 e)
      by Equal e rest = absurd (below.1.0 (ap (λ (z : List ℕ). text_cmp z y) (exact_bytes t x e) ∙ s.0.0))
      by Greater e rest = rw e
          (put_later (before x) (before y) (map before ss) (t, w)
          ∙ (λ i. record { stem = x; members = sym (members x (differs x e)) i } ∷ rest (λ m. none (ap (λ (o : Ordering). is_eq o || mem text_cmp t (y ∷ ss)) e ∙ m)) i))

-- ---- the members and stems of the pairs, with one more at the end

members_more : (stem : List ℕ) (done : List Pair) (p : Pair) → members_of stem (done ++ p ∷ []) ≡ members_of stem done ++ cond (bytes_eq stem p.0) (p.1 ∷ []) []
members_more stem [] p = by (bytes_eq stem p.0)
  where
    by : (b : Bool) → map (λ (q : Pair). q.1) (cond b (p ∷ []) []) ≡ cond b (p.1 ∷ []) []
    by true = refl
    by false = refl
members_more stem (d ∷ done) p = by (bytes_eq stem d.0) (members_more stem done p)
  where
    by : (b : Bool) → members_of stem (done ++ p ∷ []) ≡ members_of stem done ++ cond (bytes_eq stem p.0) (p.1 ∷ []) []
        → map (λ (q : Pair). q.1) (cond b (d ∷ filter (λ q. bytes_eq stem q.0) (done ++ p ∷ [])) (filter (λ q. bytes_eq stem q.0) (done ++ p ∷ [])))
        ≡ map (λ (q : Pair). q.1) (cond b (d ∷ filter (λ q. bytes_eq stem q.0) done) (filter (λ q. bytes_eq stem q.0) done)) ++ cond (bytes_eq stem p.0) (p.1 ∷ []) []
    by true rest = ap (λ (l : List (List ℕ)). d.1 ∷ l) rest
    by false rest = rest

stems_more : (q : List ℕ) (done : List Pair) (p : Pair) → mem text_cmp q (map (λ r. r.0) (done ++ p ∷ [])) ≡ mem text_cmp q (p.0 ∷ map (λ r. r.0) done)
stems_more q [] p = refl
stems_more q (d ∷ done) p = ap (λ (b : Bool). is_eq (text_cmp q d.0) || b) (stems_more q done p) ∙ or_swap (is_eq (text_cmp q d.0)) (is_eq (text_cmp q p.0)) (mem text_cmp q (map (λ r. r.0) done))

no_members : (stem : List ℕ) (done : List Pair) → mem text_cmp stem (map (λ r. r.0) done) ≡ false → members_of stem done ≡ []
no_members stem [] m = refl
no_members stem (d ∷ done) m = by (bytes_eq stem d.0) refl (no_members stem done)
  where
    by : (b : Bool) → bytes_eq stem d.0 ≡ b → (mem text_cmp stem (map (λ r. r.0) done) ≡ false → members_of stem done ≡ [])
        → map (λ (q : Pair). q.1) (cond b (d ∷ filter (λ q. bytes_eq stem q.0) done) (filter (λ q. bytes_eq stem q.0) done)) ≡ []
    by true e rest = let r = sym (ap (λ (c : Bool). c || mem text_cmp stem (map (λ r. r.0) done)) (is_eq-slice_cmp stem d.0 ∙ e)) ∙ m in cc r
    by false e rest = rest (sym (ap (λ (c : Bool). c || mem text_cmp stem (map (λ r. r.0) done)) (is_eq-slice_cmp stem d.0 ∙ e)) ∙ m)

-- ---- all pairs

abbrev NotAbove : List ℕ → List ℕ → Type 0
NotAbove stem x = text_cmp stem x ≡ Less → ⊥

-- a pair whose stem is not below those of the pairs before it
put_more : (done : List Pair) (p : Pair) → All (NotAbove p.0) (in_order (map (λ r. r.0) done)) → put_last (classes_sorted done) p ≡ classes_sorted (done ++ p ∷ [])
put_more done p below =
    put_after p.0 p.1 (λ s. members_of s done) (λ s. members_of s (done ++ p ∷ []))
    (λ s other. members_more s done p ∙ ap (λ (b : Bool). members_of s done ++ cond b (p.1 ∷ []) []) other ∙ append-nil (members_of s done))
    (members_more p.0 done p ∙ ap (λ (b : Bool). members_of p.0 done ++ cond b (p.1 ∷ []) []) (bytes_eq-self p.0))
    (in_order (map (λ r. r.0) done)) (in_order-sorted (map (λ r. r.0) done))
    (recursion_from_All (NotAbove p.0) (in_order (map (λ r. r.0) done)) below)
    (λ m. no_members p.0 done (sym (any-in_order (λ x. is_eq (text_cmp p.0 x)) (map (λ r. r.0) done)) ∙ m))
    ∙ ap (map (class_sorted (done ++ p ∷ []))) (sym (one_order (map (λ r. r.0) (done ++ p ∷ [])) (p.0 ∷ map (λ r. r.0) done) (λ q. stems_more q done p)))

stems_below : (stem : List ℕ) (ds : List Pair) → AllByRecursion (λ d. NotAbove stem d.0) ds → All (NotAbove stem) (in_order (map (λ r. r.0) ds))
stems_below stem [] a = All-nil (NotAbove stem)
stems_below stem (d ∷ ds) a = All-insert_key text_cmp d.0 (NotAbove stem) (in_order (map (λ r. r.0) ds)) (stems_below stem ds a.1) a.0

prefix_below : (done : List Pair) (p : Pair) (ps : List Pair) → DoNotFall (done ++ p ∷ ps) → AllByRecursion (λ d. NotAbove p.0 d.0) done
prefix_below [] p ps s = tt
prefix_below (d ∷ done) p ps s = (at done s.0, prefix_below done p ps s.1)
  where
    at : (xs : List Pair) → AllByRecursion (λ q. NotAbove q.0 d.0) (xs ++ p ∷ ps) → NotAbove p.0 d.0
    at [] a = a.0
    at (x ∷ xs) a = at xs a.1

grouped_on : (done ps : List Pair) → DoNotFall (done ++ ps) → put_pairs (classes_sorted done) ps ≡ classes_sorted (done ++ ps)
grouped_on done [] s = ap classes_sorted (sym (append-nil done))
grouped_on done (p ∷ ps) s =
    ap (λ (cs : List Class). put_pairs cs ps) (put_more done p (stems_below p.0 done (prefix_below done p ps s)))
    ∙ grouped_on (done ++ p ∷ []) ps (subst DoNotFall (sym (append_assoc done (p ∷ []) ps)) s)
    ∙ ap classes_sorted (append_assoc done (p ∷ []) ps)

-- pairs whose stems do not fall, put one after another, make the classes
pub grouped_turn : (pairs : List Pair) → DoNotFall pairs → put_pairs [] pairs ≡ classes_sorted pairs
grouped_turn pairs s = grouped_on [] pairs s

-- stems of pairs that rise do not fall
not_above : (p q : Pair) → pair_cmp p q ≡ Less → NotAbove q.0 p.0
not_above p q h e = by (text_cmp p.0 q.0) (nat_list_cmp_total.antisymm p.0 q.0 ∙ ap ordering_reverse e) h
  where
    by : (o : Ordering) → o ≡ Greater → ordering_then o (text_cmp p.1 q.1) ≡ Less → ⊥
    by Less e h = cc e
    by Equal e h = cc e
    by Greater e h = cc h

do_not_fall : (ps : List Pair) → IsStrictlySortedBy pair_cmp ps → DoNotFall ps
unfolding IsStrictlySortedBy
do_not_fall [] s = tt
do_not_fall (p ∷ ps) s = (at ps s.0, do_not_fall ps s.1)
  where
    at : (xs : List Pair) → AllByRecursion (λ q. pair_cmp p q ≡ Less) xs → AllByRecursion (λ q. NotAbove q.0 p.0) xs
    at [] a = tt
    at (x ∷ xs) a = (not_above p x a.0, at xs a.1)

-- the pairs in order, put one after another, make the classes
pub grouped_all : (pairs : List Pair) → put_pairs [] (pairs_in_order pairs) ≡ pair_classes pairs
grouped_all pairs =
    grouped_turn (pairs_in_order pairs) (do_not_fall (pairs_in_order pairs) (sorted-sorted pairs))
    ∙ ap (map (class_sorted (pairs_in_order pairs))) (stems-sorted pairs)
    ∙ each (in_order (map (λ p. p.0) pairs))
  where
    each : (ss : List (List ℕ)) → map (class_sorted (pairs_in_order pairs)) ss ≡ map (pair_class pairs) ss
    each [] = refl
    each (s ∷ ss) = λ i. record { stem = s; members = members-in_order s pairs i } ∷ each ss i
