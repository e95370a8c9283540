use Rattle.std.proofs.Common.{◌≡◌, IfOk, List, Option, subst}
use Rattle.sbl_ast.specs.View.{view_item}
use Rattle.sbl_semantics.specs.DiffersByParts.{differ_item}
use Rattle.sbl_ast.specs.NamedParts.{Part'}
use Rattle.sbl_tree_diff.specs.ItemsIn.{items_in}
use Rattle.sbl_tree_diff.proofs.Joins.{each_viewed}
use Rattle.sbl_tree_diff.proofs.item_diff.differ_trees.Goals as goal

pub returns : goal.returns
returns c =
    subst (λ (items : Option (List Part')). IfOk c.differ_each.result (λ r. items_in r ≡ items))
    (each_viewed view_item differ_item c.args.one.now c.args.other.now) c.differ_each.ensures
