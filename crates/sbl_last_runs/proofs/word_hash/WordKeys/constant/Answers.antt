use Rattle.std.proofs.Common.{refl}
use Rattle.sbl_last_runs.specs.WordHash.{constant_keys}
use Rattle.sbl_last_runs.proofs.word_hash.WordKeys.constant.Goals as goal

pub returns : goal.returns
unfolding constant_keys
returns c = refl
