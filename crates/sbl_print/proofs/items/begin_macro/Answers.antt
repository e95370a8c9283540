use Rattle.std.proofs.Common.{string_bytes, ap, ◌∙◌, List, ℕ, [], ◌++◌}
use Rattle.sbl_ast.specs.Terminal as t
use Rattle.sbl_ast.specs.Tree as trees
use Rattle.sbl_ast.specs.View.{view_literal}
use Rattle.sbl_print.proofs.Adding.{if_ok, begins_before}
use Rattle.sbl_print.proofs.Placed.{begins_placed}
use Rattle.sbl_print.proofs.items.begin_macro.Goals as goal

pub returns : goal.returns
returns c =
    if_ok c.put_literal.result c.put_literal.ensures
    (λ h. begins_placed _ _ (trees.macro (string_bytes c.args.name.now) c.args.base (view_literal c.args.value.now)) (begins_before _ _ _ t.string_def _ (c.in_ok-push_str.ensures.bytes ∙ ap (λ (b : List ℕ). string_bytes c.args.out.now ++ b) c.text.ensures)
    (h [] ∙ c.in_ok-put_base.ensures _ ∙ c.in_ok-put_macro_name.ensures _)))
