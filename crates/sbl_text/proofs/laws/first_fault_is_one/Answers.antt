use Rattle.sbl_text.proofs.Unique.{first_fault_one, tokens_or_fault}
use Rattle.sbl_text.proofs.laws.first_fault_is_one.Goals as goal

pub returns-clause-fault : goal.returns-clause-fault
returns-clause-fault c = first_fault_one

pub returns-clause-either : goal.returns-clause-either
returns-clause-either c = tokens_or_fault
