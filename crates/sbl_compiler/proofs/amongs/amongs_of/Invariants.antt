use Rattle.std.proofs.Common.{◌≡◌, drop, map, []}
use Rattle.sbl_compiler.specs.NumberedAmongs.{found_after}
use Rattle.sbl_ast.specs.Order.{view_in_mode}
use Rattle.sbl_compiler.specs.NumberedView.{view_found, view_names}
use Rattle.sbl_compiler.proofs.amongs.amongs_of.Given as goal

abbrev pub invariant-loop-item : goal.invariant-loop-item
invariant-loop-item l = found_after (view_names l.names) (map view_in_mode (drop l.item-index l.items)) (map view_found l.all.items) ≡ found_after (view_names l.names) (map view_in_mode l.items) []
