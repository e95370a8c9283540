use Rattle.std.proofs.Common.{◌≡◌, true}
use Rattle.sbl_rows.specs.Rows.{view_row}
use Rattle.sbl_history.specs.inside.TextSets.{has}
use Rattle.sbl_history.proofs.RowSteps.{all_more}
use Rattle.sbl_history.proofs.unlike.note_all.Goals as goal

pub loop-row-preserved : goal.loop-row-preserved
loop-row-preserved c = (
  λ t h. c.insert.ensures.others t (c.loop-row.invariant.0 t h),
  all_more (λ r. has c.loop-row.words r.word ≡ true) (λ r. has c.insert.new.self r.word ≡ true) view_row c.args.rows.now c.loop-row.row-index c.row-item.result
      c.loop-row-test.true c.row-item.is (λ r h. c.insert.ensures.others r.word h) c.loop-row.invariant.1 c.insert.ensures.own,
)
