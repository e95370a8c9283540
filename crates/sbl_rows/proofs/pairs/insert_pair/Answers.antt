use Rattle.std.proofs.Common.{◌∙◌, ◌||◌, ap, sym, List, ℕ}
use Rattle.sbl_semantics.specs.Outcome as rows
use Rattle.sbl_semantics.specs.Outcome.{outcome_of}
use Rattle.sbl_rows.specs.Pairs.{has, is_pair_of}
use Rattle.sbl_rows.proofs.PairFacts.{pair_inserted}
use Rattle.sbl_rows.proofs.pairs.insert_pair.Goals as goal
use Rattle.sbl_rows.proofs.pairs.insert_pair.Goals.{in-Ok, in-Err}

pub returns-clause-ok : goal.returns-clause-ok
returns-clause-ok c = elim c.match-insert.branch [
  | in-Ok w ↦ rw (w.result-is) (λ q.
      pair_inserted c.in_ok-stem.stem c.in_ok-word.word _ _ w.in-Ok.ensures.updates q
      ∙ ap (λ (s : List ℕ). is_pair_of c.in_ok-word.word.items (rows.Stem s) q || has c.args.pairs.now q) (c.in_ok-stem.ensures.items ∙ c.as_slice.ensures.value)
      ∙ ap (λ (s : List ℕ). is_pair_of s (rows.Stem c.in-Stem.stem.items) q || has c.args.pairs.now q) c.in_ok-word.ensures.items
      ∙ ap (λ o. is_pair_of c.args.word.now (outcome_of o) q || has c.args.pairs.now q) (sym c.in-Stem.is))
  | in-Err w ↦ rw w.result-is tt
]
