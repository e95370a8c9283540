use Rattle.std.proofs.Common.{◌∙◌, refl, sym}
use Rattle.sbl_ast.specs.Terminal as t
use Rattle.sbl_print.proofs.Adding.{if_ok}
use Rattle.sbl_print.proofs.commands.put_compare_values.Goals as goal

pub returns : goal.returns
returns c =
    if_ok c.put_sign-3.result c.put_sign-3.ensures
    (λ h rest. h t.close_ refl rest ∙ c.in_ok-put_expression-2.ensures _ ∙ c.in_ok-put.ensures (t.compares c.args.sign) (sym c.comparison_text.ensures) _ ∙ c.in_ok-put_expression.ensures _
    ∙ c.in_ok-put_sign-2.ensures t.open_ refl _ ∙ c.in_ok-put_sign.ensures t.dollar refl _)
