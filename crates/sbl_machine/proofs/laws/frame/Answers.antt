use Rattle.sbl_machine.proofs.FrameLaw.{frame_holds}
use Rattle.sbl_machine.proofs.laws.frame.Goals as goal

pub returns : goal.returns
returns c = frame_holds
