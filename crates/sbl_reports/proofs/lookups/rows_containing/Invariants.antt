use Rattle.std.proofs.Common.{◌≡◌, ◌++◌, map}
use Rattle.std.specs.List.{filter}
use Rattle.std.specs.Vec.Iter.{into_iter_items}
use Rattle.sbl_bench.specs.Contents.{rows_now}
use Rattle.sbl_bench.specs.KeptRuns.{contents_of}
use Rattle.sbl_rows.specs.Rows.{view_row}
use Rattle.sbl_reports.specs.Lookups.{row_contains}
use Rattle.sbl_reports.proofs.lookups.rows_containing.Given as goal

-- the rows so far, and those still to come that pass
abbrev pub invariant-loop-row : goal.invariant-loop-row
invariant-loop-row l = map view_row l.rows.items ++ filter (row_contains l.part) (map view_row (into_iter_items l.row-iterator)) ≡ filter (row_contains l.part) (rows_now (contents_of l.bench))
