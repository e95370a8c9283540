-- The rows: each word with the outcome of a fresh run of the script under the limit.
use Rattle.std.specs.Prelude.{ℕ, List, map}
use Rattle.std.specs.Borrow.{Bor}
use Rattle.sbl_semantics.specs.Outcome.{Outcome', outcome_of, run_of}
use Rattle.sbl_semantics.specs.declared.outcome.Outcome.{Outcome}
use Rattle.sbl_rows.specs.Setting.{Setting}
use Rattle.sbl_rows.specs.declared.row.Row as declared

pub record Row : Type 0 where
  pub word : List ℕ
  pub outcome : Outcome'

abbrev pub row_of : Setting → List ℕ → Row
row_of s word = record { word = word; outcome = run_of s.script word s.limit }

abbrev pub rows_of : Setting → List (List ℕ) → List Row
rows_of s words = map (row_of s) words

abbrev pub view_outcome : Bor Outcome → Outcome'
view_outcome o = outcome_of o.now

abbrev pub view_row : declared.Row → Row
view_row r = record { word = r.word.now; outcome = outcome_of r.outcome.now }

abbrev pub view_rows : List declared.Row → List Row
view_rows rows = map view_row rows
