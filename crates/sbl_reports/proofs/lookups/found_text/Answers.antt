use Rattle.std.proofs.Common.{◌∙◌, List, ap, map}
use Rattle.std.proofs.lemmas.Result.{IfOk-weaker}
use Rattle.sbl_rows.specs.Rows.{Row, view_row}
use Rattle.sbl_io.specs.Records.{records_text}
use Rattle.sbl_records.specs.RowRecords.{row_fields}
use Rattle.sbl_records.proofs.RecordFacts.{seen_lines}
use Rattle.sbl_reports.proofs.lookups.found_text.Goals as goal

pub returns : goal.returns
returns c =
    IfOk-weaker c.records_text.result _ _
    (λ text e. seen_lines row_fields view_row _ _ _ e c.deref.ensures.value ∙ ap (λ (rows : List Row). records_text (map row_fields rows)) c.in_ok-rows.ensures) c.records_text.ensures
