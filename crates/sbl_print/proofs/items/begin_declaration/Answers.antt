use Rattle.std.proofs.Common.{map, string_bytes, ap, ◌∙◌, List, ℕ, [], ◌++◌, refl}
use Rattle.sbl_ast.specs.Terminal as t
use Rattle.sbl_ast.specs.Tree as trees
use Rattle.sbl_print.proofs.Adding.{if_ok, begins_before}
use Rattle.sbl_print.proofs.Placed.{begins_placed}
use Rattle.sbl_print.proofs.items.begin_declaration.Goals as goal

pub returns : goal.returns
returns c =
    if_ok c.put_sign-2.result c.put_sign-2.ensures
    (λ h. begins_placed _ _ (trees.declaration c.args.kind (map string_bytes c.args.names.now.items)) (begins_before _ _ _ (t.declares c.args.kind) _ (c.in_ok-push_str.ensures.bytes ∙ ap (λ (b : List ℕ). string_bytes c.args.out.now ++ b) c.declaration_text.ensures)
    (h t.close_ refl [] ∙ c.in_ok-put_names.ensures _ ∙ c.in_ok-put_sign.ensures t.open_ refl _)))
