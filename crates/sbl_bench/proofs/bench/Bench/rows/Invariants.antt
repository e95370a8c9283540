use Rattle.std.proofs.Common.{◌≡◌, ◌++◌, map}
use Rattle.sbl_bench.specs.KeptRuns.{setting_of}
use Rattle.sbl_rows.specs.Rows.{rows_of, view_row}
use Rattle.sbl_last_runs.proofs.Entries.{row_shown}
use Rattle.sbl_bench.proofs.bench.Bench.rows.Given as goal

-- the rows so far, and those that the entries still to come show
abbrev pub invariant-loop-word : goal.invariant-loop-word
invariant-loop-word l = map view_row l.rows.items ++ map row_shown l.word-iterator ≡ rows_of (setting_of l.self) l.self.words
