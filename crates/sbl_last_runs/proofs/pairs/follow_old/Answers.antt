use Rattle.std.proofs.Common.{◌∙◌, ◌&&◌, not, ap, sym, subst}
use Rattle.sbl_semantics.specs.Outcome.{outcome_of}
use Rattle.sbl_last_runs.specs.Pairs.{IsIndexed, has, is_pair_of}
use Rattle.sbl_last_runs.proofs.Following.{one_less}
use Rattle.sbl_last_runs.proofs.pairs.follow_old.Goals as goal

pub returns-in-Stem : goal.returns-in-Stem
returns-in-Stem c = λ old new more there indexed.
    one_less c.args.word.items old new c.args.last (has c.in-Some.pairs) (has c.remove_key.new.pairs) more there (subst (IsIndexed old) c.in-Some.is indexed)
    (λ q. c.remove_key.ensures q ∙ ap (λ o. not (is_pair_of c.args.word.items (outcome_of o) q) && has c.in-Some.pairs q) (sym c.in-Stem.is ∙ c.into_outcome.ensures))

pub returns-in-Refused : goal.returns-in-Refused
returns-in-Refused c = λ old new more there indexed.
    one_less c.args.word.items old new c.args.last (has c.in-Some.pairs) (has c.in-Some.pairs) more there (subst (IsIndexed old) c.in-Some.is indexed)
    (λ q. ap (λ o. not (is_pair_of c.args.word.items (outcome_of o) q) && has c.in-Some.pairs q) (sym c.in-Refused.is ∙ c.into_outcome.ensures))
