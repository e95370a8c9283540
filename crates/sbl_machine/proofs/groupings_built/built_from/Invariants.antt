use Rattle.std.proofs.Common.{◌≡◌, drop, map}
use Rattle.sbl_ast.specs.Order.{in_order, view_in_mode}
use Rattle.sbl_ast.specs.View.{view_items}
use Rattle.sbl_machine.specs.inside.BuiltFromParts.{built_after}
use Rattle.sbl_machine.proofs.groupings_built.built_from.Given as goal

-- those of the items so far, and those of the items still to come
abbrev pub invariant-loop-item : goal.invariant-loop-item
invariant-loop-item l = built_after (map view_in_mode (drop l.item-index l.item-items)) l.names ≡ built_after (in_order (view_items l.items)) l.fn.groupings
