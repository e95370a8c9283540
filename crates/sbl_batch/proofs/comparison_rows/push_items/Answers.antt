use Rattle.sbl_batch.specs.Compare.{item_row}
use Rattle.sbl_semantics.specs.TouchedItems.{item_of}
use Rattle.sbl_rows.proofs.Loops.{step_map}
use Rattle.sbl_batch.proofs.comparison_rows.push_items.Goals as goal

pub loop-item-preserved : goal.loop-item-preserved
loop-item-preserved c =
    step_map item_row item_of c.args.items.now c.loop-item.item-index c.item-item.result c.item-item.result
    _ _ _ c.loop-item-test.true c.item-item.is c.in_ok-push_row.ensures c.loop-item.invariant
