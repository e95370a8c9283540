use Rattle.std.proofs.Common.{◌∙◌, drop_of_length-le, List, ℕ, ap, subst, arith}
use Rattle.sbl_semantics.specs.declared.outcome.Outcome.{Outcome}
use Rattle.sbl_semantics.specs.Outcome.{outcome_of}
use Rattle.sbl_last_runs.specs.Pairs.{IsFollowed, find, has}
use Rattle.sbl_last_runs.proofs.Following.{followed_all, followed_more, followed_none}
use Rattle.sbl_last_runs.proofs.pairs.follow_each.Goals as goal

pub loop-change-init : goal.loop-change-init
loop-change-init c = λ old f paired. followed_none old c.args.traces.now.entries c.args.last.now c.args.pairs.now f paired

pub loop-change-preserved : goal.loop-change-preserved
loop-change-preserved c = λ old f paired.
    let change = c.change-item.result in
    let es = c.args.traces.now.entries in
    let s = c.loop-change.pairs in
    let n = c.follow_one.new.pairs in
    followed_more old es c.args.last.now c.loop-change.change-index change change c.in-Some.now.now s n c.loop-change-test.true c.change-item.is f
    (c.in-Some.ensures.value ∙ ap (λ (w : List ℕ). find w es) c.as_slice-word.ensures.value)
    (λ q. subst (λ (w : List ℕ). IsFollowed w (outcome_of change.traced.outcome) (outcome_of c.in-Some.now.now.outcome) (has s) (has n) q) c.as_slice-word.ensures.value
    (subst (λ (o : Outcome). IsFollowed c.as_slice-word.result.now (outcome_of o) (outcome_of c.in-Some.now.now.outcome) (has s) (has n) q) c.outcome-before.ensures
    (subst (λ (o : Outcome). IsFollowed c.as_slice-word.result.now (outcome_of c.outcome-before.result.now) (outcome_of o) (has s) (has n) q) c.outcome.ensures (c.in_ok-differs.ensures.ok q))))
    (c.loop-change.invariant old f paired)

pub returns : goal.returns
returns c = λ old f paired.
    followed_all old c.args.traces.now.entries _ c.loop-change.pairs
    (drop_of_length-le c.args.last.now (let h = c.loop-change-test.false in omega (arith, h)))
    (c.loop-change.invariant old f paired)
