use Rattle.std.proofs.Common.{◌≡◌, ◌++◌, drop, map}
use Rattle.sbl_semantics.specs.Items.{known_in}
use Rattle.sbl_ast.specs.Order.{view_in_mode}
use Rattle.sbl_ast.specs.declared.tree.DeclarationKind.TheVariants as kinds
use Rattle.sbl_explain.proofs.integers.names_in.Given as goal

-- the names so far and those of the other items are those of all items
abbrev pub invariant-loop-item : goal.invariant-loop-item
invariant-loop-item l = l.names ++ known_in (map view_in_mode (drop l.item-index l.items)) kinds.Integers ≡ known_in (map view_in_mode l.items) kinds.Integers
