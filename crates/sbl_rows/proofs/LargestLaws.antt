-- The classes by size are the classes, and each is before all that come after it.
use Rattle.std.proofs.Common.{◌≡◌, ◌∙◌, ◌<◌, ◌++◌, inl, inr, List, [], ◌∷◌, map, length, take, drop, min, refl, sym, ap, subst}
use Rattle.std.specs.List.{All, AllByRecursion}
use Rattle.std.specs.List.Sorted.{IsPermutation, IsStrictlySortedBy}
use Rattle.std.specs.Cmp.{IsTotalOrder}
use Rattle.std.specs.declared.cmp.Ordering.{Ordering}
use Rattle.std.specs.declared.cmp.Ordering.TheVariants.{Less, Equal, Greater}
use Rattle.std.specs.Ordering.{MatchOrdering, match_ordering, nat_cmp, ordering_reverse, ordering_then}
use Rattle.std.specs.BTreeSet.{replace_key}
use Rattle.std.proofs.lemmas.Cmp.{back_total, nat_cmp_total, nat_list_cmp_total, on_total, ranked, then_total}
use Rattle.std.proofs.lemmas.List.{length-take, take-append-drop}
use Rattle.std.proofs.lemmas.List.Elements.{All-nil, All-cons, All-head, All-tail, All-weaker}
use Rattle.std.proofs.lemmas.List.Sorted.{All-permutation, IsPermutation-cons, IsPermutation-middle, IsPermutation-refl, IsPermutation-trans, length_permutation}
use Rattle.sbl_rows.specs.Classes.{Class, classes_of}
use Rattle.sbl_rows.specs.Largest.{by_size, size_cmp}
use Rattle.sbl_rows.specs.LargestAreSound.{AreRanked, IsBefore, LargestAreFirst}
use Rattle.sbl_rows.proofs.ClassLaws.{classes_rise}
use Rattle.sbl_rows.proofs.OrderFacts.{text_cmp}

total : IsTotalOrder size_cmp
total = then_total (on_total (λ (c : Class). length c.members) (back_total nat_cmp_total)) (on_total (λ (c : Class). c.stem) nat_list_cmp_total)

-- the order of the definition is that of the law
is_before : (c d : Class) → size_cmp c d ≡ Less → IsBefore c d
is_before c d e = by (nat_cmp (length d.members) (length c.members)) refl e (ranked (length d.members) (length c.members) (nat_cmp (length d.members) (length c.members)) refl)
  where
    by : (o : Ordering) → nat_cmp (length d.members) (length c.members) ≡ o → ordering_then o (text_cmp c.stem d.stem) ≡ Less → MatchOrdering o (length d.members < length c.members) (length d.members ≡ length c.members) (length c.members < length d.members) → IsBefore c d
    by Less g e m = inl m
    by Equal g e m = inr (sym m, e)
    by Greater g e m = cc e

-- classes with other stems
abbrev Others : Class → List Class → Type 0
Others c classes = All (λ d. size_cmp c d ≡ Equal → ⊥) classes

abbrev Sorted : List Class → Type 0
Sorted [] = Unit {0}
Sorted (c ∷ classes) = All (λ d. size_cmp c d ≡ Less) classes × Sorted classes

put_permutes : (classes : List Class) (c : Class) → Others c classes → IsPermutation (c ∷ classes) (replace_key size_cmp classes c)
put_permutes [] c a = IsPermutation-refl (c ∷ [])
put_permutes (d ∷ classes) c a = by (size_cmp c d) refl (put_permutes classes c (All-tail (λ e. size_cmp c e ≡ Equal → ⊥) d classes a))
  where
    by : (o : Ordering) → size_cmp c d ≡ o → IsPermutation (c ∷ classes) (replace_key size_cmp classes c) → IsPermutation (c ∷ d ∷ classes) (match_ordering o (c ∷ d ∷ classes) (c ∷ classes) (d ∷ replace_key size_cmp classes c))
    by Less e rest = IsPermutation-refl (c ∷ d ∷ classes)
    by Equal e rest = absurd (All-head (λ x. size_cmp c x ≡ Equal → ⊥) d classes a e)
    by Greater e rest = IsPermutation-trans (c ∷ d ∷ classes) (d ∷ c ∷ classes) (d ∷ replace_key size_cmp classes c) (IsPermutation-middle (c ∷ []) d classes) (IsPermutation-cons d (c ∷ classes) (replace_key size_cmp classes c) rest)

put_sorts : (classes : List Class) (c : Class) → Others c classes → Sorted classes → Sorted (replace_key size_cmp classes c)
put_sorts [] c a s = (All-nil (λ d. size_cmp c d ≡ Less), tt)
put_sorts (d ∷ classes) c a s = by (size_cmp c d) refl (put_sorts classes c others s.1)
  where
    others : Others c classes
    others = All-tail (λ e. size_cmp c e ≡ Equal → ⊥) d classes a

    by : (o : Ordering) → size_cmp c d ≡ o → Sorted (replace_key size_cmp classes c) → Sorted (match_ordering o (c ∷ d ∷ classes) (c ∷ classes) (d ∷ replace_key size_cmp classes c))
    by Less e rest = (All-cons (λ x. size_cmp c x ≡ Less) d classes e (All-weaker (λ x. size_cmp d x ≡ Less) (λ x. size_cmp c x ≡ Less) (λ x h. total.trans c d x e h) classes s.0), s)
    by Equal e rest = absurd (All-head (λ x. size_cmp c x ≡ Equal → ⊥) d classes a e)
    by Greater e rest =
        (All-permutation (λ x. size_cmp d x ≡ Less) (c ∷ classes) (replace_key size_cmp classes c) (put_permutes classes c others) (All-cons (λ x. size_cmp d x ≡ Less) c classes (total.antisymm d c ∙ ap ordering_reverse e) s.0), rest)

-- no two classes have the same stem
abbrev Apart : List Class → Type 0
Apart [] = Unit {0}
Apart (c ∷ classes) = Others c classes × Apart classes

second : (o r : Ordering) → ordering_then o r ≡ Equal → r ≡ Equal
second Less r e = cc e
second Equal r e = e
second Greater r e = cc e

apart : (classes : List Class) → IsStrictlySortedBy text_cmp (map (λ c. c.stem) classes) → Apart classes
unfolding IsStrictlySortedBy
apart [] s = tt
apart (c ∷ classes) s = (later classes s.0, apart classes s.1)
  where
    differ : (d : Class) → text_cmp c.stem d.stem ≡ Less → size_cmp c d ≡ Equal → ⊥
    differ d h e = let r = sym h ∙ second (nat_cmp (length d.members) (length c.members)) (text_cmp c.stem d.stem) e in cc r

    later : (ds : List Class) → AllByRecursion (λ y. text_cmp c.stem y ≡ Less) (map (λ d. d.stem) ds) → Others c ds
    later [] a = All-nil (λ d. size_cmp c d ≡ Equal → ⊥)
    later (d ∷ ds) a = All-cons (λ x. size_cmp c x ≡ Equal → ⊥) d ds (differ d a.0) (later ds a.1)

by_size-permutes : (classes : List Class) → Apart classes → IsPermutation classes (by_size classes)
by_size-permutes [] a = IsPermutation-refl []
by_size-permutes (c ∷ classes) a =
    let rest : IsPermutation classes (by_size classes) = by_size-permutes classes a.1 in
    IsPermutation-trans (c ∷ classes) (c ∷ by_size classes) (replace_key size_cmp (by_size classes) c) (IsPermutation-cons c classes (by_size classes) rest)
    (put_permutes (by_size classes) c (All-permutation (λ d. size_cmp c d ≡ Equal → ⊥) classes (by_size classes) rest a.0))

by_size-sorts : (classes : List Class) → Apart classes → Sorted (by_size classes)
by_size-sorts [] a = tt
by_size-sorts (c ∷ classes) a =
    put_sorts (by_size classes) c (All-permutation (λ d. size_cmp c d ≡ Equal → ⊥) classes (by_size classes) (by_size-permutes classes a.1) a.0) (by_size-sorts classes a.1)

are_ranked : (classes : List Class) → Sorted classes → AreRanked classes
are_ranked [] s = tt
are_ranked (c ∷ classes) s = (All-weaker (λ d. size_cmp c d ≡ Less) (IsBefore c) (is_before c) classes s.0, are_ranked classes s.1)

pub largest_are_first : LargestAreFirst
largest_are_first n rows =
    let classes : List Class = classes_of rows in
    let ordered : List Class = by_size classes in
    let distinct : Apart classes = apart classes (classes_rise rows).0 in
    let parts : take n ordered ++ drop n ordered ≡ ordered = take-append-drop n ordered in (
      (drop n ordered, subst (IsPermutation classes) (sym parts) (by_size-permutes classes distinct), subst AreRanked (sym parts) (are_ranked ordered (by_size-sorts classes distinct))),
      length-take n ordered ∙ ap (min n) (length_permutation classes ordered (by_size-permutes classes distinct)),
    )
