-- The order of items in memory is that of items, with names of their own and with borrowed ones.
use Rattle.std.proofs.Common.{◌≡◌, List, [], ◌∷◌, map, refl, ap, ◌∙◌}
use Rattle.std.specs.BTreeSet.{insert_key}
use Rattle.std.specs.declared.cmp.Ordering.{Ordering}
use Rattle.std.specs.declared.cmp.Ordering.TheVariants.{Less, Equal, Greater}
use Rattle.std.specs.Ordering.{match_ordering}
use Rattle.sbl_semantics.specs.TouchedItems.{item_cmp, item_of}
use Rattle.sbl_ast.specs.NamedParts.{Part'}
use Rattle.sbl_semantics.specs.contracts.item.ItemOrd.TheImpl as owned
use Rattle.sbl_semantics.specs.declared.item.Item.{Item}
use Rattle.sbl_semantics.specs.declared.item.Item.TheVariants as code
use Rattle.sbl_machine.specs.ItemRefs.{item_of_ref}
use Rattle.sbl_machine.specs.contracts.item_ref.ItemRefOrd.TheImpl as borrowed
use Rattle.sbl_machine.specs.declared.item_ref.ItemRef.{ItemRef}
use Rattle.sbl_machine.specs.declared.item_ref.ItemRef.TheVariants as ref

module _ {A : Type 0} (view : A → Part') (cmp : A → A → Ordering) where
  inserted_step : (x : A) (xs : List A) (k : A) (ys : List Part') (r : Ordering) → map view (insert_key cmp xs k) ≡ ys → map view (match_ordering r (k ∷ x ∷ xs) (x ∷ xs) (x ∷ insert_key cmp xs k)) ≡ match_ordering r (view k ∷ view x ∷ map view xs) (view x ∷ map view xs) (view x ∷ ys)
  inserted_step x xs k ys Less e = refl
  inserted_step x xs k ys Equal e = refl
  inserted_step x xs k ys Greater e = ap (λ zs. view x ∷ zs) e

  inserted_by : ((x y : A) → cmp x y ≡ item_cmp (view x) (view y)) → (ks : List A) (k : A) → map view (insert_key cmp ks k) ≡ insert_key item_cmp (map view ks) (view k)
  inserted_by same [] k = refl
  inserted_by same (x ∷ xs) k =
      inserted_step x xs k _ (cmp k x) (inserted_by same xs k)
      ∙ ap (λ r. match_ordering r (view k ∷ view x ∷ map view xs) (view x ∷ map view xs) (view x ∷ insert_key item_cmp (map view xs) (view k))) (same k x)

same_order : (x y : Item) → owned.cmp-value.it x y ≡ item_cmp (item_of x) (item_of y)
same_order (code.Routine m) (code.Routine n) = refl
same_order (code.Routine m) (code.Among n l) = refl
same_order (code.Routine m) (code.Grouping n) = refl
same_order (code.Among m k) (code.Routine n) = refl
same_order (code.Grouping m) (code.Routine n) = refl
same_order _ _ = refl

pub map_insert_key : (ks : List Item) (k : Item) → map item_of (insert_key owned.cmp-value.it ks k) ≡ insert_key item_cmp (map item_of ks) (item_of k)
map_insert_key = inserted_by item_of owned.cmp-value.it same_order

pub same_ref_order : (x y : ItemRef) → borrowed.cmp-value.it x y ≡ item_cmp (item_of_ref x) (item_of_ref y)
same_ref_order (ref.Routine m) (ref.Routine n) = refl
same_ref_order (ref.Routine m) (ref.Among n l) = refl
same_ref_order (ref.Routine m) (ref.Grouping n) = refl
same_ref_order (ref.Among m k) (ref.Routine n) = refl
same_ref_order (ref.Grouping m) (ref.Routine n) = refl
same_ref_order _ _ = refl

pub map_insert_ref : (ks : List ItemRef) (k : ItemRef) → map item_of_ref (insert_key borrowed.cmp-value.it ks k) ≡ insert_key item_cmp (map item_of_ref ks) (item_of_ref k)
map_insert_ref = inserted_by item_of_ref borrowed.cmp-value.it same_ref_order
