use Rattle.std.proofs.Common.{◌≡◌, ◌≤◌, drop, length}
use Rattle.sbl_semantics.specs.TouchedItems.{items_of}
use Rattle.sbl_machine.specs.ItemRefs.{items_of_refs}
use Rattle.sbl_machine.proofs.naming.item_refs.Given as goal

abbrev pub invariant-loop-left : goal.invariant-loop-left
invariant-loop-left l = (l.left ≤ length l.touches) × (items_of_refs l.items ≡ items_of l.names (drop l.left l.touches))

abbrev pub decreases-loop-left : goal.decreases-loop-left
decreases-loop-left l = l.left
