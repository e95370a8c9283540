use Rattle.snowbench.proofs.LineFacts.{lists-read}
use Rattle.snowbench.proofs.laws.lists_are_read.Goals as goal

pub returns : goal.returns
returns c = lists-read
