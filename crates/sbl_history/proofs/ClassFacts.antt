-- The classes that a law of changes can leave out: those of whose words none has another stem in the other list.
use Rattle.std.proofs.Common.{◌≡◌, ◌∙◌, ◌⊎◌, ◌++◌, ◌||◌, ◌&&◌, Bool, true, false, ℕ, List, [], ◌∷◌, map, Option, Some, None, cond, if◌then◌else◌, inl, inr, refl, sym, ap, ⊎_elim, true≢false}
use Rattle.std.specs.List.{AllByRecursion, cons_option, filter, filter_map, list_any}
use Rattle.std.specs.Ordering.{is_eq, match_ordering}
use Rattle.std.specs.declared.cmp.Ordering.{Ordering}
use Rattle.std.specs.declared.cmp.Ordering.TheVariants.{Less, Equal, Greater}
use Rattle.std.specs.Str.{bytes_eq}
use Rattle.std.specs.BTreeSet.{insert_key}
use Rattle.std.proofs.lemmas.List.Kept.{IsStrictlySortedBy-filter}
use Rattle.std.proofs.lemmas.Slice.Eq.{bytes_eq-Decides}
use Rattle.sbl_rows.specs.Changes.{Change, Renamed, changes_by, class_changes, class_merger, class_renaming, class_split, is_from_one, is_one}
use Rattle.sbl_rows.specs.Classes.{Class, Pair, in_order, members_of, pair_class, pair_classes}
use Rattle.sbl_rows.specs.Moves.{moves_back}
use Rattle.sbl_rows.proofs.ChangeLaws.{alike_order}
use Rattle.sbl_rows.proofs.ClassLaws.{any-map}
use Rattle.sbl_rows.proofs.OrderFacts.{any-in_order, any-members, any-stems, in_order-sorted, in_order-stays, one_order, text_cmp}
use Rattle.sbl_rows.proofs.Sorting.{mem}

abbrev pub Test : Type 0
Test = List ℕ → Bool

-- a move that stays, or both of whose stems are marked
abbrev pub IsMarked : Test → Pair → Type 0
IsMarked is_marked m = (m.0 ≡ m.1) ⊎ ((is_marked m.0 ≡ true) × (is_marked m.1 ≡ true))

-- the moves from marked stems
abbrev pub marked_moves : Test → List Pair → List Pair
marked_moves is_marked ms = filter (λ m. is_marked m.0) ms

-- both stems are marked, or none is
pub both_marked : (is_marked : Test) (m : Pair) → IsMarked is_marked m → is_marked m.0 ≡ is_marked m.1
both_marked is_marked m (inl e) = ap is_marked e
both_marked is_marked m (inr h) = h.0 ∙ sym h.1

-- ---- filters and the order

any_filter : (test keeps : Test) (xs : List (List ℕ)) → list_any test (filter keeps xs) ≡ list_any (λ x. keeps x && test x) xs
any_filter test keeps [] = refl
any_filter test keeps (x ∷ xs) = by (keeps x) (any_filter test keeps xs)
  where
    by : (b : Bool) → list_any test (filter keeps xs) ≡ list_any (λ x. keeps x && test x) xs → list_any test (cond b (x ∷ filter keeps xs) (filter keeps xs)) ≡ ((b && test x) || list_any (λ x. keeps x && test x) xs)
    by true rest = ap (λ (b : Bool). test x || b) rest
    by false rest = rest

pub filter_order : (keeps : Test) (ts : List (List ℕ)) → filter keeps (in_order ts) ≡ in_order (filter keeps ts)
filter_order keeps ts =
    sym (in_order-stays (filter keeps (in_order ts)) (IsStrictlySortedBy-filter text_cmp keeps (in_order ts) (in_order-sorted ts)))
    ∙ one_order (filter keeps (in_order ts)) (filter keeps ts) same
  where
    same : (q : List ℕ) → mem text_cmp q (filter keeps (in_order ts)) ≡ mem text_cmp q (filter keeps ts)
    same q =
        any_filter (λ x. is_eq (text_cmp q x)) keeps (in_order ts)
        ∙ any-in_order (λ x. keeps x && is_eq (text_cmp q x)) ts
        ∙ sym (any_filter (λ x. is_eq (text_cmp q x)) keeps ts)

pub firsts_filter : (is_marked : Test) (ms : List Pair) → map (λ m. m.0) (marked_moves is_marked ms) ≡ filter is_marked (map (λ m. m.0) ms)
firsts_filter is_marked [] = refl
firsts_filter is_marked (m ∷ ms) = by (is_marked m.0) (firsts_filter is_marked ms)
  where
    by : (b : Bool) → map (λ m. m.0) (marked_moves is_marked ms) ≡ filter is_marked (map (λ m. m.0) ms)
        → map (λ (m : Pair). m.0) (cond b (m ∷ marked_moves is_marked ms) (marked_moves is_marked ms)) ≡ cond b (m.0 ∷ filter is_marked (map (λ m. m.0) ms)) (filter is_marked (map (λ m. m.0) ms))
    by true rest = ap (λ (l : List (List ℕ)). m.0 ∷ l) rest
    by false rest = rest

-- ---- members

all_inserted : (P : List ℕ → Type 0) (x : List ℕ) (xs : List (List ℕ)) → P x → AllByRecursion P xs → AllByRecursion P (insert_key text_cmp xs x)
all_inserted P x [] p a = (p, tt)
all_inserted P x (y ∷ ys) p a = by (text_cmp x y) (all_inserted P x ys p a.1)
  where
    by : (o : Ordering) → AllByRecursion P (insert_key text_cmp ys x) → AllByRecursion P (match_ordering o (x ∷ y ∷ ys) (y ∷ ys) (y ∷ insert_key text_cmp ys x))
    by Less rest = (p, a)
    by Equal rest = a
    by Greater rest = (a.0, rest)

pub all_in_order : (P : List ℕ → Type 0) (xs : List (List ℕ)) → AllByRecursion P xs → AllByRecursion P (in_order xs)
all_in_order P [] a = tt
all_in_order P (x ∷ xs) a = all_inserted P x (in_order xs) a.0 (all_in_order P xs a.1)

module _ (is_marked : Test) where
  -- a marked stem keeps its members
  pub same_members : (s : List ℕ) → is_marked s ≡ true → (ms : List Pair) → members_of s (marked_moves is_marked ms) ≡ members_of s ms
  same_members s h [] = refl
  same_members s h (m ∷ ms) = by (is_marked m.0) (bytes_eq s m.0) refl refl (same_members s h ms)
    where
      by : (k b : Bool) → is_marked m.0 ≡ k → bytes_eq s m.0 ≡ b → members_of s (marked_moves is_marked ms) ≡ members_of s ms
          → members_of s (cond k (m ∷ marked_moves is_marked ms) (marked_moves is_marked ms)) ≡ map (λ p. p.1) (cond b (m ∷ filter (λ p. bytes_eq s p.0) ms) (filter (λ p. bytes_eq s p.0) ms))
      by true true ek eb rest = rw eb (ap (λ (l : List (List ℕ)). m.1 ∷ l) rest)
      by true false ek eb rest = rw eb rest
      by false true ek eb rest = absurd (true≢false (sym h ∙ ap is_marked ((bytes_eq-Decides s m.0).0 eb) ∙ ek))
      by false false ek eb rest = rest

  -- the members of a stem that is not marked are that stem
  alike_members : (s : List ℕ) → is_marked s ≡ false → (ms : List Pair) → AllByRecursion (IsMarked is_marked) ms → AllByRecursion (λ t. t ≡ s) (members_of s ms)
  alike_members s h [] a = tt
  alike_members s h (m ∷ ms) a = by (bytes_eq s m.0) refl a.0 (alike_members s h ms a.1)
    where
      by : (b : Bool) → bytes_eq s m.0 ≡ b → IsMarked is_marked m → AllByRecursion (λ t. t ≡ s) (members_of s ms)
          → AllByRecursion (λ t. t ≡ s) (map (λ p. p.1) (cond b (m ∷ filter (λ p. bytes_eq s p.0) ms) (filter (λ p. bytes_eq s p.0) ms)))
      by true e (inl stays) rest = (sym stays ∙ sym ((bytes_eq-Decides s m.0).0 e), rest)
      by true e (inr both) rest = absurd (true≢false (sym both.0 ∙ sym (ap is_marked ((bytes_eq-Decides s m.0).0 e)) ∙ h))
      by false e one rest = rest

  -- the members of a marked stem are marked
  marked_members : (s : List ℕ) → is_marked s ≡ true → (ms : List Pair) → AllByRecursion (IsMarked is_marked) ms → AllByRecursion (λ t. is_marked t ≡ true) (members_of s ms)
  marked_members s h [] a = tt
  marked_members s h (m ∷ ms) a = by (bytes_eq s m.0) refl (marked_members s h ms a.1)
    where
      by : (b : Bool) → bytes_eq s m.0 ≡ b → AllByRecursion (λ t. is_marked t ≡ true) (members_of s ms)
          → AllByRecursion (λ t. is_marked t ≡ true) (map (λ p. p.1) (cond b (m ∷ filter (λ p. bytes_eq s p.0) ms) (filter (λ p. bytes_eq s p.0) ms)))
      by true e rest = (sym (both_marked is_marked m a.0) ∙ sym (ap is_marked ((bytes_eq-Decides s m.0).0 e)) ∙ h, rest)
      by false e rest = rest

  -- ---- changes of classes

  abbrev Made : Type 0
  Made = Class → List (List ℕ) → Option Change

  module _ (ms : List Pair) (a : AllByRecursion (IsMarked is_marked) ms) where
    -- what is made of each class, if a class of one member that is its stem makes nothing
    made_of_marked : (h g : Made) → ((c : Class) → h c [] ≡ None) → ((c : Class) → h c (c.stem ∷ []) ≡ None)
        → ((c : Class) → AllByRecursion (λ t. is_marked t ≡ true) c.members → h c c.members ≡ g c c.members) → (ss : List (List ℕ))
        → filter_map (λ c. h c c.members) (map (pair_class ms) ss) ≡ filter_map (λ c. g c c.members) (map (pair_class (marked_moves is_marked ms)) (filter is_marked ss))
    made_of_marked h g empty one agree [] = refl
    made_of_marked h g empty one agree (s ∷ ss) = by (is_marked s) refl (made_of_marked h g empty one agree ss)
      where
        class : Class
        class = pair_class ms s

        others : List Change
        others = filter_map (λ c. g c c.members) (map (pair_class (marked_moves is_marked ms)) (filter is_marked ss))

        by : (b : Bool) → is_marked s ≡ b → filter_map (λ c. h c c.members) (map (pair_class ms) ss) ≡ others
            → cons_option (h class class.members) (filter_map (λ c. h c c.members) (map (pair_class ms) ss))
            ≡ filter_map (λ c. g c c.members) (map (pair_class (marked_moves is_marked ms)) (cond b (s ∷ filter is_marked ss) (filter is_marked ss)))
        by true e rest =
            let same : class ≡ pair_class (marked_moves is_marked ms) s = (λ i. record { stem = s; members = in_order (sym (same_members s e ms) i) }) in
            (λ i. cons_option (agree class (all_in_order (λ t. is_marked t ≡ true) (members_of s ms) (marked_members s e ms a)) i) (rest i))
            ∙ (λ i. cons_option (g (same i) (same i).members) others)
        by false e rest =
            let none : h class class.members ≡ None = ⊎_elim (λ is. ap (h class) is ∙ empty class) (λ is. ap (h class) is ∙ one class) (alike_order s (members_of s ms) (alike_members s e ms a)) in
            (λ i. cons_option (none i) (filter_map (λ c. h c c.members) (map (pair_class ms) ss))) ∙ rest

    -- the same over all classes
    made_of_classes : (h g : Made) → ((c : Class) → h c [] ≡ None) → ((c : Class) → h c (c.stem ∷ []) ≡ None)
        → ((c : Class) → AllByRecursion (λ t. is_marked t ≡ true) c.members → h c c.members ≡ g c c.members)
        → filter_map (λ c. h c c.members) (pair_classes ms) ≡ filter_map (λ c. g c c.members) (pair_classes (marked_moves is_marked ms))
    made_of_classes h g empty one agree =
        made_of_marked h g empty one agree (in_order (map (λ m. m.0) ms))
        ∙ ap (λ (ss : List (List ℕ)). filter_map (λ c. g c c.members) (map (pair_class (marked_moves is_marked ms)) ss))
        (filter_order is_marked (map (λ m. m.0) ms) ∙ ap in_order (sym (firsts_filter is_marked ms)))

    -- whether all words of a class have one stem in the other list
    from_one_in : (n : List ℕ) → is_marked n ≡ true → (ss : List (List ℕ))
        → is_from_one (map (pair_class ms) ss) n ≡ is_from_one (map (pair_class (marked_moves is_marked ms)) (filter is_marked ss)) n
    from_one_in n h [] = refl
    from_one_in n h (s ∷ ss) = by (is_marked s) refl (from_one_in n h ss)
      where
        others : Bool
        others = is_from_one (map (pair_class (marked_moves is_marked ms)) (filter is_marked ss)) n

        other : is_marked s ≡ false → bytes_eq s n ≡ false
        other e = at (bytes_eq s n) refl
          where
            at : (b : Bool) → bytes_eq s n ≡ b → b ≡ false
            at true is = absurd (true≢false (sym h ∙ sym (ap is_marked ((bytes_eq-Decides s n).0 is)) ∙ e))
            at false is = refl

        by : (b : Bool) → is_marked s ≡ b → is_from_one (map (pair_class ms) ss) n ≡ others
            → ((bytes_eq s n && is_one (in_order (members_of s ms))) || is_from_one (map (pair_class ms) ss) n)
            ≡ is_from_one (map (pair_class (marked_moves is_marked ms)) (cond b (s ∷ filter is_marked ss) (filter is_marked ss))) n
        by true e rest = λ i. (bytes_eq s n && is_one (in_order (sym (same_members s e ms) i))) || rest i
        by false e rest = (λ i. (other e i && is_one (in_order (members_of s ms))) || is_from_one (map (pair_class ms) ss) n) ∙ rest

    from_one : (n : List ℕ) → is_marked n ≡ true → is_from_one (pair_classes ms) n ≡ is_from_one (pair_classes (marked_moves is_marked ms)) n
    from_one n h =
        from_one_in n h (in_order (map (λ m. m.0) ms))
        ∙ ap (λ (ss : List (List ℕ)). is_from_one (map (pair_class (marked_moves is_marked ms)) ss) n)
        (filter_order is_marked (map (λ m. m.0) ms) ∙ ap in_order (sym (firsts_filter is_marked ms)))

-- ---- moves back

back_marked : (is_marked : Test) (ms : List Pair) → AllByRecursion (IsMarked is_marked) ms → AllByRecursion (IsMarked is_marked) (moves_back ms)
back_marked is_marked [] a = tt
back_marked is_marked (m ∷ ms) a = (turned a.0, back_marked is_marked ms a.1)
  where
    turned : IsMarked is_marked m → IsMarked is_marked (m.1, m.0)
    turned (inl e) = inl (sym e)
    turned (inr h) = inr (h.1, h.0)

back_filter : (is_marked : Test) (ms : List Pair) → AllByRecursion (IsMarked is_marked) ms → marked_moves is_marked (moves_back ms) ≡ moves_back (marked_moves is_marked ms)
back_filter is_marked [] a = refl
back_filter is_marked (m ∷ ms) a =
    (λ i. cond (sym (both_marked is_marked m a.0) i) ((m.1, m.0) ∷ marked_moves is_marked (moves_back ms)) (marked_moves is_marked (moves_back ms)))
    ∙ by (is_marked m.0) (back_filter is_marked ms a.1)
  where
    by : (b : Bool) → marked_moves is_marked (moves_back ms) ≡ moves_back (marked_moves is_marked ms)
        → cond b ((m.1, m.0) ∷ marked_moves is_marked (moves_back ms)) (marked_moves is_marked (moves_back ms)) ≡ moves_back (cond b (m ∷ marked_moves is_marked ms) (marked_moves is_marked ms))
    by true rest = ap (λ (l : List Pair). (m.1, m.0) ∷ l) rest
    by false rest = rest

-- ---- the law of classes

-- the changes of classes are those by the moves from marked stems
pub changes_by_marked : (is_marked : Test) (ms : List Pair) → AllByRecursion (IsMarked is_marked) ms → changes_by ms ≡ changes_by (marked_moves is_marked ms)
changes_by_marked is_marked ms a =
    let kept = marked_moves is_marked ms in
    let backs = moves_back ms in
    let b : AllByRecursion (IsMarked is_marked) backs = back_marked is_marked ms a in
    let back : marked_moves is_marked backs ≡ moves_back kept = back_filter is_marked ms a in
    let splits = made_of_classes is_marked ms a class_split class_split (λ c. refl) (λ c. refl) (λ c h. refl) in
    let mergers = made_of_classes is_marked backs b class_merger class_merger (λ c. refl) (λ c. refl) (λ c h. refl)
    ∙ ap (λ (qs : List Pair). filter_map (λ c. class_merger c c.members) (pair_classes qs)) back in
    let renamings = made_of_classes is_marked ms a (class_renaming (pair_classes backs)) (class_renaming (pair_classes (moves_back kept))) (λ c. refl)
    (λ c. itself (pair_classes backs) c) (λ c h. one_name _ _ c c.members h (λ n e. from_one is_marked backs b n e ∙ ap (λ (qs : List Pair). is_from_one (pair_classes qs) n) back)) in
    λ i. (splits i ++ mergers i) ++ renamings i
  where
    itself : (now : List Class) (c : Class) → class_renaming now c (c.stem ∷ []) ≡ None
    itself now c = let e : bytes_eq c.stem c.stem ≡ true = (bytes_eq-Decides c.stem c.stem).1 refl in rw e refl

    one_name : (new now : List Class) (c : Class) (ns : List (List ℕ)) → AllByRecursion (λ t. is_marked t ≡ true) ns → ((n : List ℕ) → is_marked n ≡ true → is_from_one new n ≡ is_from_one now n)
        → class_renaming new c ns ≡ class_renaming now c ns
    one_name new now c [] h same = refl
    one_name new now c (n ∷ []) h same = ap (λ (b : Bool). if bytes_eq c.stem n then None else (if b then Some (Renamed c.stem n) else None)) (same n h.0)
    one_name new now c (n ∷ m ∷ ns) h same = refl

-- ---- the same moves, some of them repeated

module _ (a b : List Pair) (same : (test : Pair → Bool) → list_any test a ≡ list_any test b) where
  same_classes : pair_classes a ≡ pair_classes b
  same_classes = λ i. map (λ s. record { stem = s; members = members s i }) (stems i)
    where
      stems : in_order (map (λ m. m.0) a) ≡ in_order (map (λ m. m.0) b)
      stems = one_order (map (λ m. m.0) a) (map (λ m. m.0) b)
          (λ q. any-stems (λ x. is_eq (text_cmp q x)) a ∙ same (λ m. is_eq (text_cmp q m.0)) ∙ sym (any-stems (λ x. is_eq (text_cmp q x)) b))

      members : (s : List ℕ) → in_order (members_of s a) ≡ in_order (members_of s b)
      members s = one_order (members_of s a) (members_of s b)
          (λ q. any-members (λ x. is_eq (text_cmp q x)) s a ∙ same (λ m. bytes_eq s m.0 && is_eq (text_cmp q m.1)) ∙ sym (any-members (λ x. is_eq (text_cmp q x)) s b))

-- the changes of classes are those by a list that has the same moves
pub changes_by_same : (a b : List Pair) → ((test : Pair → Bool) → list_any test a ≡ list_any test b) → changes_by a ≡ changes_by b
changes_by_same a b same =
    let classes : pair_classes a ≡ pair_classes b = same_classes a b same in
    let backs : pair_classes (moves_back a) ≡ pair_classes (moves_back b) = same_classes (moves_back a) (moves_back b)
    (λ test. any-map (λ (m : Pair). (m.1, m.0)) test a ∙ same (λ m. test (m.1, m.0)) ∙ sym (any-map (λ (m : Pair). (m.1, m.0)) test b)) in
    λ i. class_changes (classes i) (backs i)
