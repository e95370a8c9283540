use Rattle.std.proofs.Common.{◌∙◌, ◌||◌, ap, subst}
use Rattle.sbl_semantics.specs.Outcome.{outcome_of}
use Rattle.sbl_last_runs.specs.Pairs.{IsIndexed, has, is_pair_of}
use Rattle.sbl_last_runs.proofs.Following.{one_more}
use Rattle.sbl_last_runs.proofs.pairs.follow_new.Goals as goal

pub returns-in-Ok : goal.returns-in-Ok
returns-in-Ok c = λ old more indexed.
    one_more c.args.word.now c.args.traces.now.entries old c.in-Some-get.last.now (has c.in-Some.pairs) (has c.insert_pair.new.pairs) more c.in-Some-get.ensures.value (subst (IsIndexed old) c.in-Some.is indexed)
    (λ q. c.in-Ok.ensures.ok q ∙ ap (λ o. is_pair_of c.args.word.now (outcome_of o) q || has c.in-Some.pairs q) c.outcome.ensures)
