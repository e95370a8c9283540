use Rattle.std.proofs.Common.{string_bytes, ap, ◌∙◌, List, ℕ, [], ◌++◌, refl}
use Rattle.sbl_ast.specs.Terminal as t
use Rattle.sbl_ast.specs.Tree as trees
use Rattle.sbl_ast.specs.View.{view_row}
use Rattle.sbl_print.proofs.Adding.{if_ok, begins_before}
use Rattle.sbl_print.proofs.Placed.{begins_placed}
use Rattle.sbl_print.proofs.items.begin_routine.Goals as goal

pub returns : goal.returns
returns c =
    if_ok c.put_row.result c.put_row.ensures
    (λ h. begins_placed _ _ (trees.routine (string_bytes c.args.name.now) (view_row c.args.body.now).0 (view_row c.args.body.now).1) (begins_before _ _ _ t.define _ (c.in_ok-push_str.ensures.bytes ∙ ap (λ (b : List ℕ). string_bytes c.args.out.now ++ b) c.text.ensures)
    (h [] ∙ c.in_ok-put_word.ensures t.as_ refl _ ∙ c.in_ok-put_name.ensures _)))
