use Rattle.std.proofs.Common.{◌≡◌, IfOk, List, Option, map, subst, sym}
use Rattle.sbl_ast.specs.View.{view_item}
use Rattle.sbl_parser.proofs.OneTree.{trees_are_one}
use Rattle.sbl_ast.specs.NamedParts.{Part'}
use Rattle.sbl_semantics.proofs.ByParts.{items_by_parts}
use Rattle.sbl_tree_diff.specs.ItemsIn.{items_in}
use Rattle.sbl_bench.proofs.script_diff.differ_items.Goals as goal

pub returns : goal.returns
returns c =
    subst (λ (items : Option (List Part')). IfOk c.differ_trees.result (λ r. items_in r ≡ items))
    (sym (items_by_parts trees_are_one (map view_item c.args.one.now) (map view_item c.args.other.now))) c.differ_trees.ensures
