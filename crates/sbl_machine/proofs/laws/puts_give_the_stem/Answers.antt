use Rattle.sbl_machine.proofs.Replays as replays
use Rattle.sbl_machine.proofs.laws.puts_give_the_stem.Goals as goal

pub returns : goal.returns
returns c = replays.puts_give_the_stem
