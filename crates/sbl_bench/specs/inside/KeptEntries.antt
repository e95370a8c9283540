-- The entries of a bench.
use Rattle.std.specs.Prelude.{◌≤◌, List, length, All}
use Rattle.sbl_rows.specs.Setting.{Setting}
use Rattle.sbl_last_runs.specs.KeptEntries.{KeptWord, AreFresh, words_in}
use Rattle.sbl_bench.specs.Contents.{max_words}
use Rattle.sbl_bench.specs.KeptRuns.{IsWord}

-- the invariant of the entries
pub record IsKept (s : Setting) (entries : List KeptWord) : Type 0 where
  pub fresh : AreFresh s entries
  pub sound : All IsWord (words_in entries)
  pub room : length entries ≤ max_words
