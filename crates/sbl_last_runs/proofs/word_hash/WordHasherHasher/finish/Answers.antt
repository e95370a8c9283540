use Rattle.sbl_last_runs.specs.WordHash.{finish}
use Rattle.sbl_last_runs.proofs.word_hash.WordHasherHasher.finish.Goals as goal

pub returns : goal.returns
unfolding finish
returns c = c.multiply.ensures
