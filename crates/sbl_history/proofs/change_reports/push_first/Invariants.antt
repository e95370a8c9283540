use Rattle.std.proofs.Common.{◌≡◌, ◌++◌, drop, map}
use Rattle.sbl_rows.specs.Changes.{view_changes}
use Rattle.sbl_io.specs.Records.{records_text}
use Rattle.sbl_records.specs.ChangeRecords.{change_fields}
use Rattle.sbl_history.specs.ChangeReports.{first_of_kind}
use Rattle.sbl_history.proofs.change_reports.push_first.Given as goal

-- the rows so far, and those of the changes still to come
abbrev pub invariant-loop-change : goal.invariant-loop-change
invariant-loop-change l =
    l.out.items ++ records_text (map change_fields (first_of_kind l.left (view_changes (drop l.change-index l.found)) l.kind))
    ≡ l.fn.out.items ++ records_text (map change_fields (first_of_kind l.number (view_changes l.found) l.kind))
