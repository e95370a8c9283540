use Rattle.std.proofs.Common.{◌≡◌, drop, map}
use Rattle.std.specs.List.{list_any}
use Rattle.sbl_semantics.specs.TouchedItems.{item_of, item_of_touch, same_item}
use Rattle.sbl_machine.proofs.naming.is_touched.Given as goal

abbrev pub invariant-loop-touch : goal.invariant-loop-touch
invariant-loop-touch l = list_any (same_item (item_of l.item)) (map (item_of_touch l.names) (drop l.touch-index l.touches)) ≡ list_any (same_item (item_of l.item)) (map (item_of_touch l.names) l.touches)
