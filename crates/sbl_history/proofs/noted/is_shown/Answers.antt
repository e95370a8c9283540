use Rattle.sbl_rows.specs.Rows.{view_row, view_rows}
use Rattle.sbl_history.specs.inside.TextSets.{has}
use Rattle.sbl_history.proofs.RowSteps.{row_at, shown_by}
use Rattle.sbl_history.proofs.noted.is_shown.Goals as goal

pub returns-then-number-rows : goal.returns-then-number-rows
returns-then-number-rows c = λ h.
    let rows = c.args.rows.now in
    let row = c.index-rows-number.result in
    shown_by (has c.args.words.now) (has c.args.kept.now) (view_rows rows) c.args.stem.now (view_row row) (c.args.number, row_at rows c.args.number row c.if-number-rows.true c.index-rows-number.is)
    (c.shows.ensures.stem h) (c.shows.ensures.words h) (c.shows.ensures.kept h)
