use Rattle.std.proofs.Common.{◌≡◌, ◌++◌, drop, map}
use Rattle.sbl_ast.specs.Order.{in_order, view_in_mode}
use Rattle.sbl_ast.specs.View.{view_items}
use Rattle.sbl_ast.proofs.order.items_in_order.Given as goal

abbrev pub invariant-loop-item : goal.invariant-loop-item
invariant-loop-item l = map view_in_mode l.all.items ++ in_order (view_items (drop l.item-index l.items)) ≡ in_order (view_items l.items)
