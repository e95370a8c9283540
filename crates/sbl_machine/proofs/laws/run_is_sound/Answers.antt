use Rattle.sbl_machine.proofs.SoundRuns.{ending_same}
use Rattle.sbl_machine.proofs.laws.run_is_sound.Goals as goal

pub returns : goal.returns
returns c = ending_same
