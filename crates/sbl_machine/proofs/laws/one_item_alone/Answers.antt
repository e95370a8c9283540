use Rattle.sbl_machine.proofs.Several.{one_affects, one_meets}
use Rattle.sbl_machine.proofs.laws.one_item_alone.Goals as goal

pub returns-clause-affects : goal.returns-clause-affects
returns-clause-affects c = one_affects

pub returns-clause-meets : goal.returns-clause-meets
returns-clause-meets c = one_meets
