use Rattle.sbl_rows.specs.Changes as spec
use Rattle.sbl_rows.specs.Views.{known_outcome, view_change, view_row}
use Rattle.sbl_rows.proofs.Loops.{step}
use Rattle.sbl_rows.proofs.words.push_changed.Goals as goal

pub loop-row-preserved : goal.loop-row-preserved
loop-row-preserved c =
    step (λ r. spec.outcome_change (known_outcome c.args.before.now r.word) r) view_row view_change c.args.after.now c.loop-row.row-index c.row-item.result c.row-item.result
    _ _ _ _ c.loop-row-test.true c.row-item.is c.in_ok-push_some.ensures c.outcome_change.ensures c.loop-row.invariant
