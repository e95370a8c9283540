use Rattle.std.proofs.Common.{ap}
use Rattle.sbl_rows.specs.Rows.{Row}
use Rattle.sbl_records.specs.RowRecords.{row_fields}
use Rattle.sbl_records.proofs.WriterFacts.{writes_same}
use Rattle.sbl_input.proofs.vocabulary_rows.write_row.Goals as goal

pub returns : goal.returns
returns c = λ s made.
    let fields = ap (λ o. let row : Row = record { word = c.args.word.now; outcome = o } in row_fields row) (c.in-Ok.ensures.outcome s made) in
    writes_same c.push-written.result _ _ _ _ fields c.push-written.ensures
