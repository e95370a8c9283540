-- Sorted lists: what an insertion keeps, and that two of them with the same members are one.
use Rattle.std.proofs.Common.{◌≡◌, ◌∙◌, ◌||◌, Bool, true, false, List, [], ◌∷◌, refl, sym, ap, subst}
use Rattle.std.specs.List.{All, AllByRecursion, list_any}
use Rattle.std.specs.List.Sorted.{IsStrictlySortedBy}
use Rattle.std.specs.Cmp.{IsTotalOrder}
use Rattle.std.specs.declared.cmp.Ordering.{Ordering}
use Rattle.std.specs.declared.cmp.Ordering.TheVariants.{Less, Equal, Greater}
use Rattle.std.specs.Ordering.{is_eq, match_ordering, ordering_reverse}
use Rattle.std.specs.BTreeSet.{insert_key}
use Rattle.std.proofs.lemmas.List.Elements.{All-head, All-tail}
use Rattle.std.proofs.lemmas.Map.Lookups.{CmpEqualImpliesEq, btree_set_from_contains}

or_true : (b : Bool) → (b || true) ≡ true
or_true true = refl
or_true false = refl

or_again : (a b : Bool) → (a || b) ≡ (a || (a || b))
or_again true b = refl
or_again false b = refl

pub or_swap : (a b c : Bool) → (a || (b || c)) ≡ (b || (a || c))
or_swap true true c = refl
or_swap true false c = refl
or_swap false b c = refl

module _ {K : Type 0} (R : K → K → Ordering) where
  abbrev pub mem : K → List K → Bool
  mem q xs = list_any (λ x. is_eq (R q x)) xs

  module _ (total : IsTotalOrder R) (exact : CmpEqualImpliesEq R) where
    pub self_equal : (k : K) → R k k ≡ Equal
    self_equal k = by (R k k) refl
      where
        by : (o : Ordering) → R k k ≡ o → R k k ≡ Equal
        by Less h = let r = sym h ∙ total.antisymm k k ∙ ap ordering_reverse h in cc r
        by Equal h = h
        by Greater h = let r = sym h ∙ total.antisymm k k ∙ ap ordering_reverse h in cc r

    -- an insertion adds the key, and no other
    pub any_inserted : (t : K → Bool) (ks : List K) (k : K) → list_any t (insert_key R ks k) ≡ (t k || list_any t ks)
    any_inserted t [] k = refl
    any_inserted t (x ∷ xs) k = by (R k x) refl (any_inserted t xs k)
      where
        by : (o : Ordering) → R k x ≡ o → list_any t (insert_key R xs k) ≡ (t k || list_any t xs) → list_any t (match_ordering (R k x) (k ∷ x ∷ xs) (x ∷ xs) (x ∷ insert_key R xs k)) ≡ (t k || (t x || list_any t xs))
        by Less h rest = rw h refl
        by Equal h rest = rw h (subst (λ (y : K). (t x || list_any t xs) ≡ (t y || (t x || list_any t xs))) (sym (exact k x h)) (or_again (t x) (list_any t xs)))
        by Greater h rest = rw h (ap (λ (b : Bool). t x || b) rest ∙ or_swap (t x) (t k) (list_any t xs))

    -- an inserted key is there
    pub mem-inserted : (ks : List K) (k : K) → mem k (insert_key R ks k) ≡ true
    mem-inserted ks k = any_inserted (λ x. is_eq (R k x)) ks k ∙ ap (λ (o : Ordering). is_eq o || mem k ks) (self_equal k)

    -- and the others stay
    pub mem-stays : (ks : List K) (k q : K) → mem q ks ≡ true → mem q (insert_key R ks k) ≡ true
    mem-stays ks k q h = any_inserted (λ x. is_eq (R q x)) ks k ∙ ap (λ (b : Bool). is_eq (R q k) || b) h ∙ or_true (is_eq (R q k))

    abbrev below : K → List K → Type 0
    below x xs = AllByRecursion (λ y. R x y ≡ Less) xs

    below-later : (k x : K) → R k x ≡ Less → (xs : List K) → below x xs → below k xs
    below-later k x h [] b = tt
    below-later k x h (y ∷ xs) b = (total.trans k x y h b.0, below-later k x h xs b.1)

    below-insert : (x k : K) → R x k ≡ Less → (xs : List K) → below x xs → below x (insert_key R xs k)
    below-insert x k h [] b = (h, tt)
    below-insert x k h (y ∷ xs) b = by (R k y) refl (below-insert x k h xs b.1)
      where
        by : (o : Ordering) → R k y ≡ o → below x (insert_key R xs k) → below x (match_ordering (R k y) (k ∷ y ∷ xs) (y ∷ xs) (y ∷ insert_key R xs k))
        by Less e rest = rw e (h, b)
        by Equal e rest = rw e b
        by Greater e rest = rw e (b.0, rest)

    pub sorted-insert : (ks : List K) (k : K) → IsStrictlySortedBy R ks → IsStrictlySortedBy R (insert_key R ks k)
    unfolding IsStrictlySortedBy
    sorted-insert [] k s = (tt, tt)
    sorted-insert (x ∷ xs) k s = by (R k x) refl (sorted-insert xs k s.1)
      where
        by : (o : Ordering) → R k x ≡ o → IsStrictlySortedBy R (insert_key R xs k) → IsStrictlySortedBy R (match_ordering (R k x) (k ∷ x ∷ xs) (x ∷ xs) (x ∷ insert_key R xs k))
        by Less e rest = rw e ((e, below-later k x e xs s.0), s)
        by Equal e rest = rw e s
        by Greater e rest = rw e (below-insert x k (total.antisymm x k ∙ ap ordering_reverse e) xs s.0, rest)

    -- what holds of the members of a list holds of each that it is said to have
    pub from_mem : (P : K → Type 0) (xs : List K) (q : K) → All P xs → mem q xs ≡ true → P q
    from_mem P [] q a h = cc h
    from_mem P (x ∷ xs) q a h = by (R q x) refl h (from_mem P xs q (All-tail P x xs a))
      where
        by : (o : Ordering) → R q x ≡ o → (is_eq o || mem q xs) ≡ true → (mem q xs ≡ true → P q) → P q
        by Less e h rest = rest h
        by Equal e h rest = subst P (sym (exact q x e)) (All-head P x xs a)
        by Greater e h rest = rest h

    both : (a b : Bool) → (a ≡ true → b ≡ true) → (b ≡ true → a ≡ true) → a ≡ b
    both true b f g = sym (f refl)
    both false true f g = g refl
    both false false f g = refl

    -- two lists in order with the same members are one
    pub one_list : (xs ys : List K) → IsStrictlySortedBy R xs → IsStrictlySortedBy R ys → All (λ x. mem x ys ≡ true) xs → All (λ y. mem y xs ≡ true) ys → xs ≡ ys
    one_list xs ys s t there back =
        btree_set_from_contains total (record { keys = xs }) (record { keys = ys }) s t
        (λ q. both (mem q xs) (mem q ys) (from_mem (λ x. mem x ys ≡ true) xs q there) (from_mem (λ y. mem y xs ≡ true) ys q back)) exact

    -- keys that are in order are put into it as they stand
    pub first_below : (x : K) (xs : List K) → AllByRecursion (λ y. R x y ≡ Less) xs → insert_key R xs x ≡ x ∷ xs
    first_below x [] a = refl
    first_below x (y ∷ ys) a = rw a.0 refl
