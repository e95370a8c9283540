-- Items in order rise, each once.
use Rattle.std.proofs.Common.{◌≡◌, ◌∙◌, ℕ, List, [], ◌∷◌, map, refl, ap, subst}
use Rattle.std.specs.List.{AllByRecursion}
use Rattle.std.specs.List.Sorted.{IsStrictlySortedBy}
use Rattle.std.specs.Cmp.{IsTotalOrder}
use Rattle.std.specs.Cmp.Lexicographic.{slice_cmp}
use Rattle.std.specs.declared.cmp.Ordering.{Ordering}
use Rattle.std.specs.declared.cmp.Ordering.TheVariants.{Less, Equal, Greater}
use Rattle.std.specs.Ordering.{match_ordering, nat_cmp, on, ordering_reverse, ordering_then, then_cmp}
use Rattle.std.specs.BTreeSet.{insert_key}
use Rattle.std.proofs.Math.Path.{fun_ext}
use Rattle.std.proofs.lemmas.Cmp.{nat_cmp_total, nat_list_cmp_total, on_total, then_total}
use Rattle.sbl_machine.specs.Frame.{TouchedRise}
use Rattle.sbl_machine.proofs.TouchedOrder.{in_item_order}
use Rattle.sbl_semantics.specs.Outcome.{touches_of}
use Rattle.sbl_semantics.specs.TouchedItems.{item_cmp, item_of_touch, names_of, touched_items}
use Rattle.sbl_ast.specs.NamedParts.{Part', Routine, Among, Grouping}

-- ---- the order of items is that of their kinds, then of their names, then of their numbers

kind_of : Part' → ℕ
kind_of (Routine n) = 0
kind_of (Among n k) = 1
kind_of (Grouping n) = 2

name_of : Part' → List ℕ
name_of (Routine n) = n
name_of (Among n k) = n
name_of (Grouping n) = n

number_of : Part' → ℕ
number_of (Routine n) = 0
number_of (Among n k) = k
number_of (Grouping n) = 0

abbrev by_parts : Part' → Part' → Ordering
by_parts = then_cmp (on kind_of nat_cmp) (then_cmp (on name_of (slice_cmp nat_cmp)) (on number_of nat_cmp))

then_same : (o : Ordering) → ordering_then o Equal ≡ o
then_same Less = refl
then_same Equal = refl
then_same Greater = refl

parts : (x y : Part') → by_parts x y ≡ item_cmp x y
unfolding kind_of name_of number_of
parts (Routine m) (Routine n) = then_same (slice_cmp nat_cmp m n)
parts (Routine m) (Among n l) = refl
parts (Among m k) (Routine n) = refl
parts (Grouping m) (Grouping n) = then_same (slice_cmp nat_cmp m n)
parts _ _ = refl

item_total : IsTotalOrder item_cmp
item_total =
    subst IsTotalOrder (fun_ext (λ x. fun_ext (parts x)))
    (then_total (on_total kind_of nat_cmp_total) (then_total (on_total name_of nat_list_cmp_total) (on_total number_of nat_cmp_total)))

-- ---- what is inserted into items that rise

abbrev Below : Part' → List Part' → Type 0
Below x xs = AllByRecursion (λ y. item_cmp x y ≡ Less) xs

below_later : (k x : Part') → item_cmp k x ≡ Less → (xs : List Part') → Below x xs → Below k xs
below_later k x h [] b = tt
below_later k x h (y ∷ xs) b = (item_total.trans k x y h b.0, below_later k x h xs b.1)

below_inserted : (x k : Part') → item_cmp x k ≡ Less → (xs : List Part') → Below x xs → Below x (insert_key item_cmp xs k)
below_inserted x k h [] b = (h, tt)
below_inserted x k h (y ∷ xs) b = by (item_cmp k y) refl (below_inserted x k h xs b.1)
  where
    by : (o : Ordering) → item_cmp k y ≡ o → Below x (insert_key item_cmp xs k) → Below x (match_ordering (item_cmp k y) (k ∷ y ∷ xs) (y ∷ xs) (y ∷ insert_key item_cmp xs k))
    by Less e rest = rw e (h, b)
    by Equal e rest = rw e b
    by Greater e rest = rw e (b.0, rest)

greater_is_less : (x k : Part') → item_cmp k x ≡ Greater → item_cmp x k ≡ Less
greater_is_less x k h = item_total.antisymm x k ∙ ap ordering_reverse h

rises_inserted : (ks : List Part') (k : Part') → IsStrictlySortedBy item_cmp ks → IsStrictlySortedBy item_cmp (insert_key item_cmp ks k)
unfolding IsStrictlySortedBy
rises_inserted [] k s = (tt, tt)
rises_inserted (x ∷ xs) k s = by (item_cmp k x) refl (rises_inserted xs k s.1)
  where
    by : (o : Ordering) → item_cmp k x ≡ o → IsStrictlySortedBy item_cmp (insert_key item_cmp xs k) → IsStrictlySortedBy item_cmp (match_ordering (item_cmp k x) (k ∷ x ∷ xs) (x ∷ xs) (x ∷ insert_key item_cmp xs k))
    by Less e rest = rw e ((e, below_later k x e xs s.0), s)
    by Equal e rest = rw e s
    by Greater e rest = rw e (below_inserted x k (greater_is_less x k e) xs s.0, rest)

pub ordered_rises : (xs : List Part') → IsStrictlySortedBy item_cmp (in_item_order xs)
unfolding IsStrictlySortedBy
ordered_rises [] = tt
ordered_rises (x ∷ xs) = rises_inserted (in_item_order xs) x (ordered_rises xs)

pub touched_rise : TouchedRise
unfolding touched_items
touched_rise script word limit = ordered_rises (map (item_of_touch (names_of script)) (touches_of script word limit))
