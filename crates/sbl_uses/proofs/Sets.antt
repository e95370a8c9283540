-- Sets of items, and of strings with their amongs: what one more adds, and what they have.
use Rattle.std.proofs.Common.{◌≡◌, ◌∙◌, ◌&&◌, ◌||◌, ℕ, Bool, List, [], ◌∷◌, map, refl, sym, ap, ap₂, subst}
use Rattle.std.specs.BTreeMap.{is_at}
use Rattle.std.specs.BTreeSet.{insert_key}
use Rattle.std.specs.Cmp.Lexicographic.{slice_cmp}
use Rattle.std.specs.List.{list_any}
use Rattle.std.specs.Ordering.{is_eq, match_ordering, nat_cmp, ordering_then}
use Rattle.std.specs.declared.cmp.Ordering.{Ordering}
use Rattle.std.specs.declared.cmp.Ordering.TheVariants.{Less, Equal, Greater}
use Rattle.std.proofs.lemmas.Map.Lookups.{exact_bytes}
use Rattle.std.specs.Cmp.{unsigned_tied}
use Rattle.std.proofs.lemmas.Map.Text.{is_eq-slice_cmp}
use Rattle.sbl_rows.proofs.PairFacts.{then_eq}
use Rattle.sbl_machine.proofs.Order.{map_insert_ref, same_ref_order}
use Rattle.sbl_machine.proofs.TouchedOrder.{any_inserted, item_exact, or_again, or_swap, then_equal}
use Rattle.sbl_machine.specs.ItemRefs.{item_of_ref}
use Rattle.sbl_machine.specs.contracts.item_ref.ItemRefOrd.TheImpl.{cmp-value}
use Rattle.sbl_machine.specs.declared.item_ref.ItemRef.{ItemRef}
use Rattle.sbl_semantics.specs.TouchedItems.{item_cmp, same_item}
use Rattle.sbl_ast.specs.NamedParts.{Part', Routine, Among, Grouping}
use Rattle.sbl_uses.specs.Unused.{Take, same_take}
use Rattle.sbl_uses.specs.UnusedViews.{Key, take_of}

-- ---- items

pub item_added : (ks : List ItemRef) (k : ItemRef) (test : Part' → Bool) → list_any test (map item_of_ref (insert_key cmp-value.it ks k)) ≡ (test (item_of_ref k) || list_any test (map item_of_ref ks))
item_added ks k test = ap (list_any test) (map_insert_ref ks k) ∙ any_inserted test (map item_of_ref ks) (item_of_ref k)

-- the order finds two items equal exactly if they are the same
item_cmp_eq : (x y : Part') → is_eq (item_cmp x y) ≡ same_item x y
item_cmp_eq (Routine m) (Routine n) = is_eq-slice_cmp m n
item_cmp_eq (Routine m) (Among n l) = refl
item_cmp_eq (Routine m) (Grouping n) = refl
item_cmp_eq (Among m k) (Routine n) = refl
item_cmp_eq (Among m k) (Among n l) = then_eq _ _ ∙ ap₂ (λ (a b : Bool). a && b) (is_eq-slice_cmp m n) (unsigned_tied k l)
item_cmp_eq (Among m k) (Grouping n) = refl
item_cmp_eq (Grouping m) (Routine n) = refl
item_cmp_eq (Grouping m) (Among n l) = refl
item_cmp_eq (Grouping m) (Grouping n) = is_eq-slice_cmp m n

at_item : (q k : ItemRef) → is_eq (cmp-value.it q k) ≡ same_item (item_of_ref q) (item_of_ref k)
at_item q k = ap is_eq (same_ref_order q k) ∙ item_cmp_eq (item_of_ref q) (item_of_ref k)

pub item_held : (q : ItemRef) (ks : List ItemRef) → list_any (is_at (cmp-value.it q)) ks ≡ list_any (same_item (item_of_ref q)) (map item_of_ref ks)
item_held q [] = refl
item_held q (k ∷ ks) = ap₂ (λ (a b : Bool). a || b) (at_item q k) (item_held q ks)

-- ---- strings with their amongs

abbrev pub key_order : Key → Key → Ordering
key_order p q = ordering_then (cmp-value.it p.0 q.0) (slice_cmp nat_cmp p.1.items q.1.items)

take_exact : (p q : Key) → key_order p q ≡ Equal → take_of p ≡ take_of q
take_exact p q h =
    let both = then_equal (cmp-value.it p.0 q.0) (slice_cmp nat_cmp p.1.items q.1.items) h in
    ap₂ (λ (x : Part') (s : List ℕ). (x, s)) (item_exact (item_of_ref p.0) (item_of_ref q.0) (sym (same_ref_order p.0 q.0) ∙ both.0)) (exact_bytes p.1.items q.1.items both.1)

pub take_added : (ks : List Key) (k : Key) (test : Take → Bool) → list_any test (map take_of (insert_key key_order ks k)) ≡ (test (take_of k) || list_any test (map take_of ks))
take_added [] k test = refl
take_added (x ∷ xs) k test = by (key_order k x) refl (take_added xs k test)
  where
    by : (o : Ordering) → key_order k x ≡ o → list_any test (map take_of (insert_key key_order xs k)) ≡ (test (take_of k) || list_any test (map take_of xs))
        → list_any test (map take_of (match_ordering (key_order k x) (k ∷ x ∷ xs) (x ∷ xs) (x ∷ insert_key key_order xs k))) ≡ (test (take_of k) || (test (take_of x) || list_any test (map take_of xs)))
    by Less h rest = rw h refl
    by Equal h rest = rw h (subst (λ (y : Take). (test (take_of x) || list_any test (map take_of xs)) ≡ (test y || (test (take_of x) || list_any test (map take_of xs)))) (sym (take_exact k x h)) (or_again (test (take_of x)) (list_any test (map take_of xs))))
    by Greater h rest = rw h (ap (λ (b : Bool). test (take_of x) || b) rest ∙ or_swap (test (take_of x)) (test (take_of k)) (list_any test (map take_of xs)))

at_take : (q k : Key) → is_eq (key_order q k) ≡ same_take (take_of q) (take_of k)
at_take q k = then_eq _ _ ∙ ap₂ (λ (a b : Bool). a && b) (at_item q.0 k.0) (is_eq-slice_cmp q.1.items k.1.items)

pub take_held : (q : Key) (ks : List Key) → list_any (is_at (key_order q)) ks ≡ list_any (same_take (take_of q)) (map take_of ks)
take_held q [] = refl
take_held q (k ∷ ks) = ap₂ (λ (a b : Bool). a || b) (at_take q k) (take_held q ks)
