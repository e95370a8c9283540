use Rattle.sbl_parser.proofs.OneFault.{fault_is_one, tree_or_fault}
use Rattle.sbl_parser.proofs.reading.one_fault.Goals as goal

pub returns-clause-one : goal.returns-clause-one
returns-clause-one c = fault_is_one

pub returns-clause-none : goal.returns-clause-none
returns-clause-none c = tree_or_fault
