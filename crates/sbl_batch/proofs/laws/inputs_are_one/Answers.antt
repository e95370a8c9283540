use Rattle.sbl_batch.proofs.LawFacts.{same-input}
use Rattle.sbl_batch.proofs.laws.inputs_are_one.Goals as goal

pub returns : goal.returns
returns c = same-input c.loading_is_one.ensures.loading
