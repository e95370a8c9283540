use Rattle.std.proofs.Common.{refl}
use Rattle.sbl_last_runs.specs.WordHash.{initial}
use Rattle.sbl_last_runs.proofs.word_hash.WordKeysBuildHasher.build_hasher.Goals as goal

pub returns : goal.returns
unfolding initial
returns c = refl
