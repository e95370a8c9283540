use Rattle.sbl_last_runs.specs.WordHash.{number_of, word_keys}
use Rattle.sbl_last_runs.proofs.word_hash.WordKeys.new.Goals as goal

pub returns : goal.returns
unfolding word_keys number_of
returns c = rw (c.hash_one.ensures, c.hash_one-2.ensures, c.hash_one-3.ensures)
