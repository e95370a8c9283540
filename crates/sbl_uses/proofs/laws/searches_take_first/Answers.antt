use Rattle.sbl_uses.proofs.EachSearch as laws
use Rattle.sbl_uses.proofs.laws.searches_take_first.Goals as goal

pub returns : goal.returns
returns c = laws.searches_take_first
