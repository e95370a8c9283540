use Rattle.std.proofs.Common.{◌≡◌, ◌≤◌, drop, length, map}
use Rattle.std.specs.List.{list_any}
use Rattle.sbl_machine.specs.ItemRefs.{items_of_refs}
use Rattle.sbl_semantics.specs.TouchedItems.{same_item}
use Rattle.sbl_ast.specs.NamedParts.{Part'}
use Rattle.sbl_ast.specs.Order.{view_in_mode}
use Rattle.sbl_uses.proofs.Bases.{is_reached}
use Rattle.sbl_uses.proofs.touched_items.add_bases.Given as goal

abbrev pub invariant-loop-left : goal.invariant-loop-left
invariant-loop-left l = (l.left ≤ length l.in_order.items) × ((x : Part') → list_any (same_item x) (items_of_refs l.items) ≡ is_reached (items_of_refs l.initial.items) (map view_in_mode (drop l.left l.in_order.items)) x)

abbrev pub decreases-loop-left : goal.decreases-loop-left
decreases-loop-left l = l.left
