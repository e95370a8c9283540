use Rattle.sbl_machine.proofs.EditsAgree.{agreeing_names_stay, clear_stay}
use Rattle.sbl_machine.proofs.laws.clear_stay.Goals as goal

pub returns-clause-names : goal.returns-clause-names
returns-clause-names c = agreeing_names_stay

pub returns-clause-clear : goal.returns-clause-clear
returns-clause-clear c = clear_stay
