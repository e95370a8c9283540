-- Parts in the order of their items.
use Rattle.std.proofs.Common.{◌≡◌, ◌∙◌, ◌∷◌, ℕ, List, [], map, refl, ap}
use Rattle.std.specs.Borrow.{Bor}
use Rattle.std.specs.BTreeMap.{insert_entry}
use Rattle.std.specs.Global.{Vec}
use Rattle.std.specs.Ordering.{match_ordering}
use Rattle.std.specs.declared.cmp.Ordering.{Ordering}
use Rattle.std.specs.declared.cmp.Ordering.TheVariants.{Less, Equal, Greater}
use Rattle.sbl_machine.proofs.Order.{same_ref_order}
use Rattle.sbl_machine.specs.ItemRefs.{item_of_ref}
use Rattle.sbl_machine.specs.contracts.item_ref.ItemRefOrd.TheImpl.{cmp-value}
use Rattle.sbl_machine.specs.declared.item_ref.ItemRef.{ItemRef}
use Rattle.sbl_semantics.specs.TouchedItems.{item_cmp}
use Rattle.sbl_uses.specs.UnusedViews.{texts_of, view_part}

abbrev Entry : Type 0
Entry = ItemRef × Vec (Bor (List ℕ))

-- a part that is put into a map
pub put_viewed : (es : List Entry) (k : ItemRef) (v : Vec (Bor (List ℕ))) → map view_part (insert_entry cmp-value.it es k v) ≡ insert_entry item_cmp (map view_part es) (item_of_ref k) (texts_of v.items)
put_viewed [] k v = refl
put_viewed (e ∷ es) k v =
    by (cmp-value.it k e.0) (put_viewed es k v)
    ∙ ap (λ (r : Ordering). match_ordering r ((item_of_ref k, texts_of v.items) ∷ view_part e ∷ map view_part es) ((item_of_ref e.0, texts_of v.items) ∷ map view_part es) (view_part e ∷ insert_entry item_cmp (map view_part es) (item_of_ref k) (texts_of v.items))) (same_ref_order k e.0)
  where
    by : (r : Ordering) → map view_part (insert_entry cmp-value.it es k v) ≡ insert_entry item_cmp (map view_part es) (item_of_ref k) (texts_of v.items)
        → map view_part (match_ordering r ((k, v) ∷ e ∷ es) ((e.0, v) ∷ es) (e ∷ insert_entry cmp-value.it es k v))
        ≡ match_ordering r ((item_of_ref k, texts_of v.items) ∷ view_part e ∷ map view_part es) ((item_of_ref e.0, texts_of v.items) ∷ map view_part es) (view_part e ∷ insert_entry item_cmp (map view_part es) (item_of_ref k) (texts_of v.items))
    by Less rest = refl
    by Equal rest = refl
    by Greater rest = ap (λ l. view_part e ∷ l) rest
