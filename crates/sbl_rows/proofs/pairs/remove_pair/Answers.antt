use Rattle.std.proofs.Common.{◌∙◌, ◌&&◌, not, ap, sym, List, ℕ}
use Rattle.std.specs.Str.{bytes_eq}
use Rattle.sbl_semantics.specs.Outcome.{outcome_of}
use Rattle.sbl_rows.specs.Pairs.{has, is_pair_of}
use Rattle.sbl_rows.proofs.pairs.remove_pair.Goals as goal

pub returns-clause-ok : goal.returns-clause-ok
returns-clause-ok c = λ q.
    c.remove_key.ensures q
    ∙ ap (λ (s : List ℕ). not (bytes_eq s q.0.items && bytes_eq c.in_ok-word.word.items q.1.items) && has c.args.pairs.now q) (c.in_ok-stem.ensures.items ∙ c.as_slice.ensures.value)
    ∙ ap (λ (w : List ℕ). not (bytes_eq c.in-Stem.stem.items q.0.items && bytes_eq w q.1.items) && has c.args.pairs.now q) c.in_ok-word.ensures.items
    ∙ ap (λ o. not (is_pair_of c.args.word.now (outcome_of o) q) && has c.args.pairs.now q) (sym c.in-Stem.is)
