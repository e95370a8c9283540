use Rattle.std.proofs.Common.{◌≡◌, drop, map}
use Rattle.sbl_compiler.specs.NumberedNames.{names_after, no_names}
use Rattle.sbl_ast.specs.Order.{view_in_mode}
use Rattle.sbl_compiler.specs.NumberedView.{view_names}
use Rattle.sbl_compiler.proofs.names.names_of.Given as goal

abbrev pub invariant-loop-item : goal.invariant-loop-item
invariant-loop-item l = names_after (map view_in_mode (drop l.item-index l.items)) (view_names l.names) ≡ names_after (map view_in_mode l.items) no_names
