use Rattle.std.proofs.Common.{rules, ◌≡◌, ◌∙◌, ◌||◌, ◌∷◌, ℕ, List, ap}
use Rattle.sbl_semantics.specs.Outcome.{outcome_of}
use Rattle.sbl_semantics.specs.declared.outcome.Outcome.{Outcome}
use Rattle.sbl_last_runs.specs.KeptEntries.{KeptWord}
use Rattle.sbl_last_runs.specs.Pairs.{has, is_pair_of}
use Rattle.sbl_last_runs.proofs.PairFacts.{distinct_after, paired_more}
use Rattle.sbl_last_runs.proofs.pairs.pairs_of.Goals as goal

pub loop-word-preserved : goal.loop-word-preserved
loop-word-preserved c =
    let e : KeptWord = (c.in-Some.word.now, c.in-Some.last.now) in
    let split : c.loop-word.word-iterator ≡ e ∷ c.next.new.self = search (rules, c.in-Some.ensures.steps) in
    record {
      so_far =
          paired_more c.args.traces.now.entries c.loop-word.word-iterator c.next.new.self c.loop-word.pairs c.insert_pair.new.pairs e split c.loop-word.invariant.distinct c.loop-word.invariant.so_far
          (λ q. c.in_ok-insert_pair.ensures.ok q ∙ ap (λ (w : List ℕ). is_pair_of w (outcome_of c.outcome.result.now) q || has c.loop-word.pairs q) c.as_slice.ensures.value
          ∙ ap (λ (o : Outcome). is_pair_of c.in-Some.word.now.items (outcome_of o) q || has c.loop-word.pairs q) c.outcome.ensures);
      distinct = distinct_after c.loop-word.word-iterator c.next.new.self e split c.loop-word.invariant.distinct;
    }
