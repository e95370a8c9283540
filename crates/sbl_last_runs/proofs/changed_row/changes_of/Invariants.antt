use Rattle.std.proofs.Common.{◌≡◌, ◌++◌, drop, map}
use Rattle.sbl_rows.specs.ChangedRows.{view_changed_row}
use Rattle.sbl_last_runs.specs.Last.{last_changes}
use Rattle.sbl_last_runs.proofs.changed_row.changes_of.Given as goal

-- the changes so far, and those of the words still to come
abbrev pub invariant-loop-change : goal.invariant-loop-change
invariant-loop-change l = map view_changed_row l.changes.items ++ last_changes l.traces.entries (drop l.change-index l.last) ≡ last_changes l.traces.entries l.last
