use Rattle.sbl_uses.proofs.EachSearch as laws
use Rattle.sbl_uses.proofs.laws.each_search_takes_first.Goals as goal

pub returns : goal.returns
returns c = laws.each_search_takes_first
