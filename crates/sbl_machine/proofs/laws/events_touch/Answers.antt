use Rattle.sbl_machine.proofs.Replays as replays
use Rattle.sbl_machine.proofs.laws.events_touch.Goals as goal

pub returns : goal.returns
returns c = replays.events_touch
