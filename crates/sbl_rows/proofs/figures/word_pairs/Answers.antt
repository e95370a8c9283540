use Rattle.sbl_rows.specs.Classes.{pair_of}
use Rattle.sbl_rows.specs.Views.{view_pair, view_row}
use Rattle.sbl_rows.proofs.Loops.{step}
use Rattle.sbl_rows.proofs.figures.word_pairs.Goals as goal

pub loop-row-preserved : goal.loop-row-preserved
loop-row-preserved c =
    step (λ r. pair_of r.word r.outcome) view_row view_pair c.args.rows.now c.loop-row.row-index c.row-item.result c.row-item.result
    _ _ _ _ c.loop-row-test.true c.row-item.is c.in_ok-push_some.ensures c.pair_of.ensures c.loop-row.invariant
