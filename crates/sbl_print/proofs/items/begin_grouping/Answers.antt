use Rattle.std.proofs.Common.{map, string_bytes, ap, ◌∙◌, List, ℕ, [], ◌++◌}
use Rattle.sbl_ast.specs.Terminal as t
use Rattle.sbl_ast.specs.Tree as trees
use Rattle.sbl_ast.specs.View.{view_argument, view_term}
use Rattle.sbl_print.proofs.Adding.{if_ok, begins_before}
use Rattle.sbl_print.proofs.Placed.{begins_placed}
use Rattle.sbl_print.proofs.items.begin_grouping.Goals as goal

pub returns : goal.returns
returns c =
    if_ok c.put_terms.result c.put_terms.ensures
    (λ h. begins_placed _ _ (trees.grouping (string_bytes c.args.grouping.now.name) (view_argument c.args.grouping.now.first) (map view_term c.args.grouping.now.others.items)) (begins_before _ _ _ t.define _ (c.in_ok-push_str.ensures.bytes ∙ ap (λ (b : List ℕ). string_bytes c.args.out.now ++ b) c.text.ensures)
    (h [] ∙ c.in_ok-put_argument.ensures _ ∙ c.in_ok-put_name.ensures _)))
