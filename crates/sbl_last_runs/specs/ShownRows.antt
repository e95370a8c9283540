-- The row of a word, by the run that is kept of it.
use Rattle.std.specs.Prelude.{ℕ, List}
use Rattle.sbl_last_runs.specs.declared.run_trace.RunTrace.{RunTrace}
use Rattle.sbl_semantics.specs.Outcome.{outcome_of}
use Rattle.sbl_rows.specs.Rows.{Row}
use Rattle.sbl_last_runs.specs.KeptEntries.{KeptWord}

-- the row of a word that has this run
abbrev pub run_row : List ℕ → RunTrace → Row
run_row word t = record { word = word; outcome = outcome_of t.outcome }

-- the row that an entry shows
abbrev pub row_shown : KeptWord → Row
row_shown e = run_row e.0.items e.1
