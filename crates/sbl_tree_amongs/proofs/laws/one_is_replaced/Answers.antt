use Rattle.sbl_tree_amongs.proofs.Swapped.{body_one, body_none}
use Rattle.sbl_tree_amongs.proofs.laws.one_is_replaced.Goals as goal

pub returns-clause-one : goal.returns-clause-one
returns-clause-one c = body_one

pub returns-clause-none : goal.returns-clause-none
returns-clause-none c = body_none
