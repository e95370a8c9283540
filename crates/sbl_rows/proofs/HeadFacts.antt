-- The first words of families with each stem, and pairs in the order of their stems.
use Rattle.std.proofs.Common.{◌≡◌, ◌∙◌, ◌||◌, ◌&&◌, ◌++◌, ◌<◌, ◌≤◌, Bool, true, false, not, cond, ℕ, suc, List, [], ◌∷◌, map, length, get_or, Some, if◌then◌else◌, option_to_list, append_assoc, arith, refl, sym, ap}
use Rattle.std.specs.List.{AllByRecursion, cons_option, filter, filter_map, find, list_any}
use Rattle.std.specs.Option.{option_map}
use Rattle.std.specs.declared.cmp.Ordering.{Ordering}
use Rattle.std.specs.declared.cmp.Ordering.TheVariants.{Less, Equal, Greater}
use Rattle.std.specs.List.Sorted.{IsSortedBy, IsStableBy, ties}
use Rattle.std.specs.Ordering.{is_eq, is_lt, ordering_reverse}
use Rattle.std.proofs.lemmas.Cmp.{nat_list_cmp_total}
use Rattle.std.proofs.lemmas.List.Sorted.{ranks_by, sorted_far}
use Rattle.std.specs.Str.{bytes_eq}
use Rattle.std.proofs.lemmas.Map.Text.{is_eq-slice_cmp}
use Rattle.std.proofs.lemmas.Slice.Eq.{bytes_eq-Decides}
use Rattle.sbl_rows.specs.Classes.{Pair, in_order, members_of}
use Rattle.sbl_rows.specs.Families.{all_of, first_with, over, over_rows}
use Rattle.sbl_rows.specs.Counting.{DoNotFall, firsts, heads}
use Rattle.sbl_rows.specs.declared.stem_class.StemPair.{StemPair}
use Rattle.sbl_rows.specs.Grouping.{class_sorted, classes_sorted, view_pair, view_pairs}
use Rattle.sbl_rows.proofs.Loops.{put_option}
use Rattle.sbl_rows.proofs.OrderFacts.{any-members, any-stems, one_order, text_cmp}
use Rattle.sbl_rows.proofs.SetFacts.{no_pair}
use Rattle.sbl_rows.proofs.Sorting.{mem}

-- ---- members and stems

pub members-append : (stem : List ℕ) (xs ys : List Pair) → members_of stem (xs ++ ys) ≡ members_of stem xs ++ members_of stem ys
members-append stem [] ys = refl
members-append stem (x ∷ xs) ys = by (bytes_eq stem x.0) (members-append stem xs ys)
  where
    by : (b : Bool) → members_of stem (xs ++ ys) ≡ members_of stem xs ++ members_of stem ys
        → map (λ (q : Pair). q.1) (cond b (x ∷ filter (λ q. bytes_eq stem q.0) (xs ++ ys)) (filter (λ q. bytes_eq stem q.0) (xs ++ ys)))
        ≡ map (λ (q : Pair). q.1) (cond b (x ∷ filter (λ q. bytes_eq stem q.0) xs) (filter (λ q. bytes_eq stem q.0) xs)) ++ members_of stem ys
    by true rest = ap (λ (l : List (List ℕ)). x.1 ∷ l) rest
    by false rest = rest

-- a stem is there if it has a member
abbrev pub some : {A : Type 0} → List A → Bool
some xs = list_any (λ x. true) xs

pub mem-members : (q : List ℕ) (ps : List Pair) → mem text_cmp q (map (λ p. p.0) ps) ≡ some (members_of q ps)
mem-members q ps = any-stems (λ x. is_eq (text_cmp q x)) ps ∙ same ps ∙ sym (any-members (λ w. true) q ps)
  where
    same : (xs : List Pair) → list_any (λ p. is_eq (text_cmp q p.0)) xs ≡ list_any (λ p. bytes_eq q p.0 && true) xs
    same [] = refl
    same (x ∷ xs) = λ i. (is_eq-slice_cmp q x.0 ∙ sym (and_true (bytes_eq q x.0))) i || same xs i
      where
        and_true : (b : Bool) → (b && true) ≡ b
        and_true true = refl
        and_true false = refl

-- pairs with the same members of each stem have the same stems, in order
pub same_stems : (xs ys : List Pair) → ((q : List ℕ) → some (members_of q xs) ≡ some (members_of q ys)) → in_order (map (λ p. p.0) xs) ≡ in_order (map (λ p. p.0) ys)
same_stems xs ys same = one_order (map (λ p. p.0) xs) (map (λ p. p.0) ys) (λ q. mem-members q xs ∙ same q ∙ sym (mem-members q ys))

pub same_classes : (xs ys : List Pair) → ((q : List ℕ) → members_of q xs ≡ members_of q ys) → classes_sorted xs ≡ classes_sorted ys
same_classes xs ys same = ap (map (class_sorted xs)) (same_stems xs ys (λ q. ap some (same q))) ∙ each (in_order (map (λ p. p.0) ys))
  where
    each : (ss : List (List ℕ)) → map (class_sorted xs) ss ≡ map (class_sorted ys) ss
    each [] = refl
    each (s ∷ ss) = λ i. record { stem = s; members = same s i } ∷ each ss i

-- ---- the first words

firsts-members : (stem : List ℕ) (seen : List ℕ → Bool) (ps : List Pair) → members_of stem (firsts seen ps) ≡ (if seen stem then [] else option_to_list (first_with stem ps))
firsts-members stem seen [] = by (seen stem)
  where
    by : (b : Bool) → ◌≡◌ {A = List (List ℕ)} [] (if b then [] else [])
    by true = refl
    by false = refl
firsts-members stem seen (p ∷ ps) =
    members-append stem (if seen p.0 then [] else p ∷ []) (firsts (λ q. bytes_eq p.0 q || seen q) ps)
    ∙ ap (λ (l : List (List ℕ)). members_of stem (if seen p.0 then [] else p ∷ []) ++ l) (firsts-members stem (λ q. bytes_eq p.0 q || seen q) ps)
    ∙ by (bytes_eq stem p.0) refl
  where
    rest : List (List ℕ)
    rest = option_to_list (first_with stem ps)

    at : (b : Bool) → members_of p.0 (if b then [] else p ∷ []) ++ [] ≡ (if b then [] else p.1 ∷ [])
    at true = refl
    at false = ap (λ (b : Bool). map (λ (q : Pair). q.1) (cond b (p ∷ []) []) ++ []) ((bytes_eq-Decides p.0 p.0).1 refl)

    other : (b : Bool) → bytes_eq stem p.0 ≡ false → members_of stem (if b then [] else p ∷ []) ≡ []
    other true e = refl
    other false e = ap (λ (c : Bool). map (λ (q : Pair). q.1) (cond c (p ∷ []) [])) e

    back : bytes_eq stem p.0 ≡ false → bytes_eq p.0 stem ≡ false
    back e = no_other (bytes_eq p.0 stem) (λ h. sym e ∙ (bytes_eq-Decides stem p.0).1 (sym ((bytes_eq-Decides p.0 stem).0 h)))
      where
        no_other : (b : Bool) → (b ≡ true → false ≡ true) → b ≡ false
        no_other true f = sym (f refl)
        no_other false f = refl

    by : (b : Bool) → bytes_eq stem p.0 ≡ b
        → members_of stem (if seen p.0 then [] else p ∷ []) ++ (if (bytes_eq p.0 stem || seen stem) then [] else rest)
        ≡ (if seen stem then [] else option_to_list (option_map (λ (q : Pair). q.1) (cond (bytes_eq stem p.0) (Some p) (find (λ q. bytes_eq stem q.0) ps))))
    by true e =
        let same : stem ≡ p.0 = (bytes_eq-Decides stem p.0).0 e in
        (λ i. members_of (same i) (if seen p.0 then [] else p ∷ []) ++ (if (bytes_eq p.0 (same i) || seen (same i)) then [] else rest))
        ∙ ap (λ (b : Bool). members_of p.0 (if seen p.0 then [] else p ∷ []) ++ (if (b || seen p.0) then [] else rest)) ((bytes_eq-Decides p.0 p.0).1 refl)
        ∙ at (seen p.0)
        ∙ (λ i. if seen (sym same i) then [] else option_to_list (option_map (λ (q : Pair). q.1) (cond (sym e i) (Some p) (find (λ q. bytes_eq stem q.0) ps))))
    by false e =
        (λ i. other (seen p.0) e i ++ (if (back e i || seen stem) then [] else rest))
        ∙ ap (λ (b : Bool). if seen stem then [] else option_to_list (option_map (λ (q : Pair). q.1) (cond b (Some p) (find (λ q. bytes_eq stem q.0) ps)))) (sym e)

heads-members : (stem : List ℕ) (families : List (List Pair)) → members_of stem (heads families) ≡ filter_map (first_with stem) families
heads-members stem [] = refl
heads-members stem (f ∷ families) =
    members-append stem (firsts (λ q. false) f) (heads families)
    ∙ (λ i. firsts-members stem (λ q. false) f i ++ heads-members stem families i)
    ∙ put_option (first_with stem f) (filter_map (first_with stem) families)

-- a family has a word with the stem if it has a first one
some-append : (xs ys : List (List ℕ)) → some (xs ++ ys) ≡ (some xs || some ys)
some-append [] ys = refl
some-append (x ∷ xs) ys = refl

some-first : (stem : List ℕ) (ps : List Pair) → some (members_of stem ps) ≡ some (option_to_list (first_with stem ps))
some-first stem [] = refl
some-first stem (p ∷ ps) = by (bytes_eq stem p.0) (some-first stem ps)
  where
    by : (b : Bool) → some (members_of stem ps) ≡ some (option_to_list (first_with stem ps))
        → some (map (λ (q : Pair). q.1) (cond b (p ∷ filter (λ q. bytes_eq stem q.0) ps) (filter (λ q. bytes_eq stem q.0) ps)))
        ≡ some (option_to_list (option_map (λ (q : Pair). q.1) (cond b (Some p) (find (λ q. bytes_eq stem q.0) ps))))
    by true rest = refl
    by false rest = rest

pub all-first : (stem : List ℕ) (families : List (List Pair)) → some (members_of stem (all_of families)) ≡ some (filter_map (first_with stem) families)
all-first stem [] = refl
all-first stem (f ∷ families) =
    ap some (members-append stem f (all_of families))
    ∙ some-append (members_of stem f) (members_of stem (all_of families))
    ∙ (λ i. some-first stem f i || all-first stem families i)
    ∙ sym (some-append (option_to_list (first_with stem f)) (filter_map (first_with stem) families))
    ∙ ap some (put_option (first_with stem f) (filter_map (first_with stem) families))

-- the stems that several families have, from the first words
pub over-heads : (families : List (List Pair)) → filter_map (λ c. over c.stem c.members) (classes_sorted (heads families)) ≡ over_rows families
over-heads families =
    each (in_order (map (λ p. p.0) (heads families)))
    ∙ ap (filter_map (λ stem. over stem (filter_map (first_with stem) families)))
    (same_stems (heads families) (all_of families) (λ q. ap some (heads-members q families) ∙ sym (all-first q families)))
  where
    each : (ss : List (List ℕ)) → filter_map (λ c. over c.stem c.members) (map (class_sorted (heads families)) ss) ≡ filter_map (λ stem. over stem (filter_map (first_with stem) families)) ss
    each [] = refl
    each (s ∷ ss) = λ i. cons_option (over s (heads-members s families i)) (each ss i)

-- one pair more of a family
pub firsts-step : (seen seen' : List ℕ → Bool) (p : Pair) (ps old new goal : List Pair) → ((q : List ℕ) → seen' q ≡ (bytes_eq p.0 q || seen q))
    → new ≡ old ++ (if seen p.0 then [] else p ∷ []) → old ++ firsts seen (p ∷ ps) ≡ goal → new ++ firsts seen' ps ≡ goal
firsts-step seen seen' p ps old new goal more e so_far =
    (λ i. e i ++ firsts (λ q. more q i) ps)
    ∙ append_assoc old (if seen p.0 then [] else p ∷ []) (firsts (λ q. bytes_eq p.0 q || seen q) ps)
    ∙ so_far

-- ---- pairs sorted by their stems

abbrev before : StemPair → StemPair → Bool
before p q = is_lt (text_cmp p.stem.now q.stem.now)

-- two pairs tie if they have one stem
ties-stem : (p q : StemPair) → ties before p q ≡ bytes_eq p.stem.now q.stem.now
ties-stem p q = ap (λ (o : Ordering). not (is_lt (text_cmp p.stem.now q.stem.now)) && not (is_lt o)) (nat_list_cmp_total.antisymm q.stem.now p.stem.now) ∙ by (text_cmp p.stem.now q.stem.now) ∙ is_eq-slice_cmp p.stem.now q.stem.now
  where
    by : (o : Ordering) → (not (is_lt o) && not (is_lt (ordering_reverse o))) ≡ is_eq o
    by Less = refl
    by Equal = refl
    by Greater = refl

members-view : (p : StemPair) (xs : List StemPair) → members_of p.stem.now (view_pairs xs) ≡ map (λ (q : StemPair). q.member.now) (filter (ties before p) xs)
members-view p [] = refl
members-view p (x ∷ xs) =
    by (bytes_eq p.stem.now x.stem.now) (members-view p xs)
    ∙ ap (λ (b : Bool). map (λ (q : StemPair). q.member.now) (cond b (x ∷ filter (ties before p) xs) (filter (ties before p) xs))) (sym (ties-stem p x))
  where
    by : (b : Bool) → members_of p.stem.now (view_pairs xs) ≡ map (λ (q : StemPair). q.member.now) (filter (ties before p) xs)
        → map (λ (q : Pair). q.1) (cond b (view_pair x ∷ filter (λ q. bytes_eq p.stem.now q.0) (view_pairs xs)) (filter (λ q. bytes_eq p.stem.now q.0) (view_pairs xs)))
        ≡ map (λ (q : StemPair). q.member.now) (cond b (x ∷ filter (ties before p) xs) (filter (ties before p) xs))
    by true rest = ap (λ (l : List (List ℕ)). x.member.now ∷ l) rest
    by false rest = rest

-- a stable sort by stems keeps the members of each stem
pub stable-members : (xs ys : List StemPair) → IsStableBy before xs ys → (stem : List ℕ) → members_of stem (view_pairs ys) ≡ members_of stem (view_pairs xs)
stable-members xs ys stable stem =
    let p : StemPair = record { stem = record { ref_ptr = (0, 0); now = stem }; member = record { ref_ptr = (0, 0); now = [] } } in
    members-view p ys ∙ ap (map (λ (q : StemPair). q.member.now)) (stable p) ∙ sym (members-view p xs)

-- pairs that are sorted by stems do not fall
pub sorted-fall : (ps : List StemPair) → IsSortedBy before ps → DoNotFall (view_pairs ps)
sorted-fall ps s = from ps (λ i j le lt. sorted_far before (ranks_by nat_list_cmp_total (λ (p : StemPair). p.stem.now)) ps s i j no_pair le lt)
  where
    less : (o : Ordering) → is_lt o ≡ false → o ≡ Less → ⊥
    less o h e = let r = sym h ∙ ap is_lt e in cc r

    later : (p : StemPair) (xs : List StemPair) → ((j : ℕ) → j < length xs → before (get_or xs j no_pair) p ≡ false) → AllByRecursion (λ q. text_cmp q.0 p.stem.now ≡ Less → ⊥) (view_pairs xs)
    later p [] f = tt
    later p (x ∷ xs) f = (less (text_cmp x.stem.now p.stem.now) (f 0 (omega arith)), later p xs (λ j lt. f (suc j) (omega arith)))

    from : (xs : List StemPair) → ((i j : ℕ) → i ≤ j → j < length xs → before (get_or xs j no_pair) (get_or xs i no_pair) ≡ false) → DoNotFall (view_pairs xs)
    from [] f = tt
    from (x ∷ xs) f = (later x xs (λ j lt. f 0 (suc j) (omega arith) (omega arith)), from xs (λ i j le lt. f (suc i) (suc j) (omega arith) (omega arith)))
