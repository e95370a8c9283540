use Rattle.sbl_rows.specs.Moves.{move_of}
use Rattle.sbl_rows.specs.Views.{known_outcome, view_pair, view_row}
use Rattle.sbl_rows.proofs.Loops.{step}
use Rattle.sbl_rows.proofs.moves.moves_of.Goals as goal

pub loop-row-preserved : goal.loop-row-preserved
loop-row-preserved c =
    step (λ r. move_of (known_outcome c.args.before.now r.word) r.outcome) view_row view_pair c.args.after.now c.loop-row.row-index c.row-item.result c.row-item.result
    _ _ _ _ c.loop-row-test.true c.row-item.is c.in_ok-push_some.ensures c.move_of.ensures c.loop-row.invariant
