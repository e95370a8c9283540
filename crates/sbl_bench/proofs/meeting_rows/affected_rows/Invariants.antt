use Rattle.std.proofs.Common.{◌≡◌, ◌++◌, map}
use Rattle.std.specs.List.{filter}
use Rattle.sbl_bench.specs.inside.Changes.{affected_of, is_met}
use Rattle.sbl_last_runs.specs.ShownRows.{row_shown}
use Rattle.sbl_rows.specs.Rows.{view_row}
use Rattle.sbl_bench.proofs.meeting_rows.affected_rows.Given as goal

-- the rows so far, and those of the affected words among the entries still to come
abbrev pub invariant-loop-word : goal.invariant-loop-word
invariant-loop-word l = map view_row l.rows.items ++ map row_shown (filter (is_met (affected_of l.affected)) l.word-iterator) ≡ map row_shown (filter (is_met (affected_of l.affected)) l.traces.entries)
