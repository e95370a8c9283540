use Rattle.sbl_rows.specs.Sides.{lone}
use Rattle.sbl_rows.specs.Views.{known_outcome, view_change, view_row}
use Rattle.sbl_rows.proofs.Loops.{step}
use Rattle.sbl_rows.proofs.words.push_lone.Goals as goal

pub loop-row-preserved : goal.loop-row-preserved
loop-row-preserved c =
    step (λ r. lone c.args.side (known_outcome c.args.other.now r.word) r) view_row view_change c.args.rows.now c.loop-row.row-index c.row-item.result c.row-item.result
    _ _ _ _ c.loop-row-test.true c.row-item.is c.in_ok-push_some.ensures c.lone.ensures c.loop-row.invariant
