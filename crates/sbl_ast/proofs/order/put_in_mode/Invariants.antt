use Rattle.std.proofs.Common.{◌≡◌, ◌++◌, drop, map}
use Rattle.sbl_ast.specs.Order.{view_in_mode}
use Rattle.sbl_ast.specs.inside.OrderParts.{in_mode}
use Rattle.sbl_ast.specs.View.{view_plain}
use Rattle.sbl_ast.proofs.order.put_in_mode.Given as goal

abbrev pub invariant-loop-plain : goal.invariant-loop-plain
invariant-loop-plain l =
    map view_in_mode l.placed.items ++ in_mode l.mode (map view_plain (drop l.plain-index l.plains.items)) ≡ map view_in_mode l.initial.placed.items ++ in_mode l.mode (map view_plain l.plains.items)
