use Rattle.std.proofs.Common.{◌∙◌, ℕ, Option, ap}
use Rattle.std.specs.Option.{unwrap_or}
use Rattle.sbl_uses.proofs.TakeFacts.{looked_up}
use Rattle.sbl_uses.proofs.take_counts.number_in.Goals as goal

pub returns-in-Some : goal.returns-in-Some
returns-in-Some c = ap (λ (o : Option ℕ). unwrap_or o 0) (c.in-Some.ensures.value ∙ looked_up c.args.key.now c.args.counts.now.entries)

pub returns-in-None : goal.returns-in-None
returns-in-None c = ap (λ (o : Option ℕ). unwrap_or o 0) (c.in-None.ensures.value ∙ looked_up c.args.key.now c.args.counts.now.entries)
