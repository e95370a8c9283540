use Rattle.sbl_last_runs.specs.WordHash.{with_number}
use Rattle.sbl_last_runs.proofs.word_hash.WordHasher.take.Goals as goal

pub returns : goal.returns
unfolding with_number
returns c = rw c.multiply-self.ensures
