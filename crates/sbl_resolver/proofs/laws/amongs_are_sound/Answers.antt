use Rattle.sbl_resolver.proofs.Sound as sound
use Rattle.sbl_resolver.proofs.laws.amongs_are_sound.Goals as goal

pub returns : goal.returns
returns c = sound.amongs_are_sound
