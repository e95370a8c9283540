use Rattle.sbl_records.specs.ChangeRecords.{change_fields}
use Rattle.sbl_rows.specs.Changes.{view_change}
use Rattle.sbl_rows.proofs.Loops.{step_map}
use Rattle.sbl_batch.proofs.comparison_rows.push_changes.Goals as goal

pub loop-change-preserved : goal.loop-change-preserved
loop-change-preserved c =
    step_map change_fields view_change c.args.changes.now c.loop-change.change-index c.change-item.result c.change-item.result
    _ _ _ c.loop-change-test.true c.change-item.is c.in_ok-push_row.ensures c.loop-change.invariant
