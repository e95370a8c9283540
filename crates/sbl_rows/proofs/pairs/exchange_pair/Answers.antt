use Rattle.std.proofs.Common.{◌∙◌, ◌||◌, ◌&&◌, not, ap, Bool}
use Rattle.std.proofs.lemmas.Result.{on_err_weaker, on_ok_weaker}
use Rattle.sbl_semantics.specs.Outcome.{outcome_of}
use Rattle.sbl_rows.specs.Pairs.{has, is_pair_of}
use Rattle.sbl_rows.proofs.Exchanges.{pair_of_other}
use Rattle.sbl_rows.proofs.pairs.exchange_pair.Goals as goal

pub returns-clause-ok : goal.returns-clause-ok
returns-clause-ok c =
    on_ok_weaker c.insert_pair.result
    (λ put q. put q ∙ ap (λ (b : Bool). is_pair_of c.args.word.now (outcome_of c.args.now.now) q || b) (c.in_ok-remove_pair.ensures.ok q))
    c.insert_pair.ensures.ok

pub returns-clause-err : goal.returns-clause-err
returns-clause-err c =
    on_err_weaker c.insert_pair.result
    (λ kept q other. kept q ∙ c.in_ok-remove_pair.ensures.ok q ∙ ap (λ (b : Bool). not b && has c.args.pairs.now q) (pair_of_other c.args.word.now (outcome_of c.args.before.now) q other))
    c.insert_pair.ensures.err
