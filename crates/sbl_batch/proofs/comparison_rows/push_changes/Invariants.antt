use Rattle.std.proofs.Common.{◌≡◌, ◌++◌, drop, map}
use Rattle.sbl_batch.specs.Comparing.{fields_in}
use Rattle.sbl_records.specs.ChangeRecords.{change_fields}
use Rattle.sbl_rows.specs.Changes.{view_changes}
use Rattle.sbl_batch.proofs.comparison_rows.push_changes.Given as goal

-- the rows so far, and those of the changes still to come
abbrev pub invariant-loop-change : goal.invariant-loop-change
invariant-loop-change l =
    map fields_in l.rows.items ++ map change_fields (view_changes (drop l.change-index l.changes))
    ≡ map fields_in l.initial.rows.items ++ map change_fields (view_changes l.changes)
