use Rattle.std.proofs.Common.{List}
use Rattle.sbl_rows.specs.Rows.{Row, view_row, view_rows}
use Rattle.sbl_history.specs.inside.Noted.{IsCovered}
use Rattle.sbl_history.specs.inside.TextSets.{has}
use Rattle.sbl_history.proofs.RowSteps.{all_more, covered_grows}
use Rattle.sbl_history.proofs.noted.show_stems.Goals as goal

pub loop-number-preserved : goal.loop-number-preserved
loop-number-preserved c =
    let words = has c.args.words.now in
    let stems = has c.args.stems.now in
    let old = has c.loop-number.kept in
    let new = has c.show_stem.new.kept in
    let rows : List Row = view_rows c.args.rows.now in
    let grows = c.show_stem.ensures.grows in
    let row = c.index-rows-number.result in
    let covered : IsCovered words stems new rows (view_row row) = c.show_stem.ensures.covered in (
      λ t h. grows t (c.loop-number.invariant.0 t h),
      all_more (IsCovered words stems old rows) (IsCovered words stems new rows) view_row c.args.rows.now c.loop-number.number row
          c.loop-number-test.true c.index-rows-number.is (covered_grows words stems old new rows grows) c.loop-number.invariant.1 covered,
    )
