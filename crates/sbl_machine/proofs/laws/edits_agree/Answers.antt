use Rattle.sbl_machine.proofs.EditsAgree.{edited_are_there, edits_agree, names_stay}
use Rattle.sbl_machine.proofs.laws.edits_agree.Goals as goal

pub returns-clause-agree : goal.returns-clause-agree
returns-clause-agree c = edits_agree

pub returns-clause-names : goal.returns-clause-names
returns-clause-names c = names_stay

pub returns-clause-there : goal.returns-clause-there
returns-clause-there c = edited_are_there
