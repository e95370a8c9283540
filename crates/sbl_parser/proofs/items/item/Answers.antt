use Rattle.std.proofs.Common.{◌∙◌}
use Rattle.std.proofs.lemmas.Result.{err_from_is_err_and}
use Rattle.sbl_parser.specs.Gives.{ahead}
use Rattle.sbl_parser.proofs.Descent as d
use Rattle.sbl_parser.proofs.items.item.Goals as goal

pub returns-in_err-plain-in_default : goal.returns-in_err-plain-in_default
returns-in_err-plain-in_default c =
    let p = err_from_is_err_and c.from_residual.result c.from_residual.ensures.1 in
    rw (p.1, p.2) (λ k. d.fails_along _ _ _ (d.item_other (ahead c.args.cursor.now) k (λ e. c.in_default.not-BackwardMode (c.role.ensures ∙ e))) (c.in_err-plain-in_default.ensures k))
