use Rattle.sbl_text.proofs.Unique.{same_again}
use Rattle.sbl_text.proofs.laws.same_fault_again.Goals as goal

pub returns : goal.returns
returns c = same_again
