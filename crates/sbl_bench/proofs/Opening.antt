-- Where opening stands between two words.
use Rattle.std.proofs.Common.{◌≡◌, ℕ, List, [], length}
use Rattle.sbl_last_runs.specs.KeptEntries.{KeptWord, words_in}
use Rattle.sbl_bench.specs.Contents.{opening_fault}
use Rattle.sbl_bench.specs.Vocabulary.{vocabulary}
use Rattle.sbl_bench.specs.inside.ProofNames.{with_all}

-- what is left to do to those that are kept is what was to be done to none.
pub record IsOpening (all rest : List (List ℕ)) (entries : List KeptWord) (count : ℕ) : Type 0 where
  pub same_fault : opening_fault [] all ≡ opening_fault (words_in entries) rest
  pub same_words : vocabulary all ≡ with_all (words_in entries) rest
  pub counted : count ≡ length entries
