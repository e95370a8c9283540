use Rattle.sbl_text_rows.specs.PlaceRows.{IsPlacesText}
use Rattle.sbl_work.proofs.TextReplyFacts.{rows_bytes, rows_utf8}
use Rattle.sbl_work.proofs.text_replies.places_of.Goals as goal

pub returns-in-Ok : goal.returns-in-Ok
returns-in-Ok c = λ s d.
    rows_utf8 IsPlacesText s d c.in-Ok.text.now c.args.bytes.now c.places_text.result c.report.result c.in-Ok.ensures.cases.0 c.in-Ok.ensures.cases.1 c.places_text.ensures c.report.ensures.made c.report.ensures.refused

pub returns-in-Err : goal.returns-in-Err
returns-in-Err c = λ s d. rows_bytes IsPlacesText s d c.args.bytes.now c.in-Err.ensures.cases.0
