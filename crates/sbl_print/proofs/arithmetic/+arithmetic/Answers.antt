use Rattle.std.proofs.Common.{rules, OnOk, string_bytes, ◌≡◌, ap, sym, subst, ◌∙◌}
use Rattle.sbl_ast.specs.Spelled.{spelled_factor}
use Rattle.sbl_ast.specs.Tree as trees
use Rattle.sbl_ast.specs.View.{view_expression}
use Rattle.sbl_ast.specs.inside.ViewParts.{view_factor}
use Rattle.sbl_ast.proofs.Views as views
use Rattle.sbl_print.specs.Adding.{Adds}
use Rattle.sbl_print.proofs.arithmetic.+arithmetic.Goals as goal

pub put_factor-returns-in_ok-put_expression-in-Bracket : goal.put_factor-returns-in_ok-put_expression-in-Bracket
put_factor-returns-in_ok-put_expression-in-Bracket t_ c =
    let seen : view_factor c.args.factor.now ≡ trees.bracketed (view_expression c.in-Bracket.inner.value) = ap view_factor c.in-Bracket.is ∙ views.factor_Bracket c.in-Bracket.inner in
    subst (λ (x : trees.Factor). OnOk c.put_sign-in-Bracket-2.result (Adds (string_bytes c.args.out.now) (string_bytes c.put_sign-in-Bracket-2.new.out) (spelled_factor x))) (sym seen) (search rules)
