use Rattle.std.proofs.Common.{string_bytes, ap, ◌∙◌, List, ℕ, [], ◌++◌}
use Rattle.sbl_ast.specs.Terminal as t
use Rattle.sbl_ast.specs.Tree as trees
use Rattle.sbl_print.proofs.Adding.{if_ok, begins_before}
use Rattle.sbl_print.proofs.Placed.{begins_placed}
use Rattle.sbl_print.proofs.items.begin_escapes.Goals as goal

pub returns : goal.returns
returns c =
    if_ok c.put_inserts.result c.put_inserts.ensures
    (λ h. begins_placed _ _ (trees.escapes c.args.a c.args.b) (begins_before _ _ _ t.string_escapes _ (c.in_ok-push_str.ensures.bytes ∙ ap (λ (b : List ℕ). string_bytes c.args.out.now ++ b) c.text.ensures) (h [])))
