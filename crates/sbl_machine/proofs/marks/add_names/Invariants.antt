use Rattle.std.proofs.Common.{◌≡◌, drop, map}
use Rattle.sbl_machine.specs.Marking.{groupings_after, routines_after}
use Rattle.sbl_semantics.specs.TouchedItems.{item_of}
use Rattle.sbl_machine.proofs.marks.add_names.Given as goal

-- the names so far, and those of the items still to come
abbrev pub invariant-loop-item : goal.invariant-loop-item
invariant-loop-item l = record {
  routines : routines_after (map item_of (drop l.item-index l.items)) l.routines ≡ routines_after (map item_of l.items) l.fn.routines;
  groupings : groupings_after (map item_of (drop l.item-index l.items)) l.groupings ≡ groupings_after (map item_of l.items) l.fn.groupings;
}
