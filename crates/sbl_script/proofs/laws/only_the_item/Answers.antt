use Rattle.sbl_script.proofs.OnlyTheItem as only
use Rattle.sbl_script.proofs.laws.only_the_item.Goals as goal

pub returns-clause-item : goal.returns-clause-item
returns-clause-item c = only.only_the_item

pub returns-clause-external : goal.returns-clause-external
returns-clause-external c = only.external_stays
