use Rattle.std.proofs.Common.{refl}
use Rattle.std.specs.Hash.FoldHasher.{folded_multiply}
use Rattle.sbl_last_runs.proofs.word_hash.multiply.Goals as goal

pub returns : goal.returns
unfolding folded_multiply
returns c = refl
