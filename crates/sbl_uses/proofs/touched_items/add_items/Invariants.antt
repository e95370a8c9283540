use Rattle.std.proofs.Common.{◌≡◌, ◌||◌, Bool, map}
use Rattle.std.specs.List.{list_any}
use Rattle.sbl_machine.specs.ItemRefs.{item_of_ref, items_of_refs}
use Rattle.sbl_ast.specs.NamedParts.{Part'}
use Rattle.sbl_uses.proofs.touched_items.add_items.Given as goal

-- the items so far, and those still to come
abbrev pub invariant-loop-item : goal.invariant-loop-item
invariant-loop-item l = (test : Part' → Bool) → (list_any test (map item_of_ref l.item-iterator) || list_any test (items_of_refs l.items)) ≡ (list_any test (map item_of_ref l.initial.item-iterator) || list_any test (items_of_refs l.initial.items))
