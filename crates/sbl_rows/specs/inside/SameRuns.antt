-- Two settings in which a word has the same run.
use Rattle.std.specs.Prelude.{◌≡◌, ℕ, List}
use Rattle.sbl_semantics.specs.Outcome.{run_of, touches_of, used_of}
use Rattle.sbl_rows.specs.Setting.{Setting}

-- a word has the same run in two settings: the same outcome, the same items touched, the same number of steps used
pub record RunsSame (s t : Setting) (word : List ℕ) : Type 0 where
  pub outcome : run_of t.script word t.limit ≡ run_of s.script word s.limit
  pub touches : touches_of t.script word t.limit ≡ touches_of s.script word s.limit
  pub used : used_of t.script word t.limit ≡ used_of s.script word s.limit
