use Rattle.std.proofs.Common.{◌∙◌, refl, sym}
use Rattle.sbl_semantics.specs.Outcome.{outcome_of}
use Rattle.sbl_rows.specs.Pairs.{has}
use Rattle.sbl_rows.proofs.Exchanges.{exchange_follows, stays_followed}
use Rattle.sbl_rows.proofs.pairs.follow_one.Goals as goal

pub returns-then-is_same-clause-ok : goal.returns-then-is_same-clause-ok
returns-then-is_same-clause-ok c = λ q.
    stays_followed c.args.word.now (outcome_of c.args.before.now) (outcome_of c.args.now.now) (has c.args.pairs.now) (has c.args.pairs.now) q (sym c.is_same.ensures ∙ c.if-is_same.true) refl

pub returns-clause-ok : goal.returns-clause-ok
returns-clause-ok c = λ q.
    exchange_follows c.args.word.now (outcome_of c.args.before.now) (outcome_of c.args.now.now) (has c.args.pairs.now) (has c.exchange_pair.new.pairs) q (c.in_ok-exchange_pair.ensures.ok q)
