use Rattle.std.proofs.lemmas.List.Sorted.{answers_always}
use Rattle.std.proofs.Common.{rules}
use Rattle.sbl_rows.proofs.HeadFacts.{sorted-fall, stable-members}
use Rattle.sbl_rows.proofs.family_rows.by_stem.Goals as goal

pub returns-clause-rise : goal.returns-clause-rise
returns-clause-rise c = sorted-fall c.sort_by_key.new.self.items (c.in_ok-sort_by_key.ensures.sorted (λ p. p.stem) (answers_always _ _ _ (λ f a r g h. search rules)))

pub returns-clause-members : goal.returns-clause-members
returns-clause-members c = stable-members c.args.pairs.items c.sort_by_key.new.self.items (c.in_ok-sort_by_key.ensures.stable (λ p. p.stem) (answers_always _ _ _ (λ f a r g h. search rules)))
