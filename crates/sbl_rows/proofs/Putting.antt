-- Keys that are put into a list in order, one after another.
use Rattle.std.proofs.Common.{◌≡◌, ◌∙◌, ◌||◌, Bool, true, false, List, [], ◌∷◌, refl, ap}
use Rattle.std.specs.List.{fold}
use Rattle.std.specs.List.Sorted.{IsStrictlySortedBy}
use Rattle.std.specs.Cmp.{IsTotalOrder}
use Rattle.std.specs.declared.cmp.Ordering.{Ordering}
use Rattle.std.specs.Ordering.{is_eq}
use Rattle.std.specs.BTreeSet.{insert_key}
use Rattle.std.proofs.lemmas.Map.Lookups.{CmpEqualImpliesEq}
use Rattle.sbl_rows.proofs.Sorting.{any_inserted, mem, sorted-insert}

pub or_shift : (a b c : Bool) → (a || (b || c)) ≡ ((b || a) || c)
or_shift true true c = refl
or_shift true false c = refl
or_shift false true c = refl
or_shift false false c = refl

pub or_false : (a : Bool) → (a || false) ≡ a
or_false true = refl
or_false false = refl

module _ {K : Type 0} (R : K → K → Ordering) (total : IsTotalOrder R) (exact : CmpEqualImpliesEq R) where
  pub put-sorted : (keys more : List K) → IsStrictlySortedBy R keys → IsStrictlySortedBy R (fold (insert_key R) keys more)
  put-sorted keys [] s = s
  put-sorted keys (k ∷ more) s = put-sorted (insert_key R keys k) more (sorted-insert R total exact keys k s)

  pub mem-put : (q : K) (keys more : List K) → mem R q (fold (insert_key R) keys more) ≡ (mem R q more || mem R q keys)
  mem-put q keys [] = refl
  mem-put q keys (k ∷ more) =
      mem-put q (insert_key R keys k) more
      ∙ ap (λ (b : Bool). mem R q more || b) (any_inserted R total exact (λ x. is_eq (R q x)) keys k)
      ∙ or_shift (mem R q more) (is_eq (R q k)) (mem R q keys)
