-- What an edit leaves as the changes of the last edit.
use Rattle.std.specs.Prelude.{◌≡◌, List, Result, Ok, Err}
use Rattle.sbl_rows.specs.ChangedRows.{changed_rows}
use Rattle.sbl_bench.specs.KeptRuns.{KeptRuns, setting_of}
use Rattle.sbl_rows.specs.Rows.{Row, rows_of}
use Rattle.sbl_bench.specs.declared.fault.EditFault.{EditFault}

-- the rows of a bench
abbrev pub rows_now : KeptRuns → List Row
rows_now k = rows_of (setting_of k) k.words

-- An accepted edit leaves the rows that it changed, and so drops those of the edit before it. A refused edit leaves those of the
-- edit before it.
abbrev pub LeavesChanges : Result (Unit {0}) EditFault → KeptRuns → KeptRuns → Type 0
LeavesChanges (Ok u) s t = t.changes ≡ changed_rows (rows_now s) (rows_now t)
LeavesChanges (Err f) s t = t.changes ≡ s.changes
