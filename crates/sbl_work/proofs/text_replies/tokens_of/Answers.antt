use Rattle.sbl_text_rows.specs.TokenRows.{IsTokensText}
use Rattle.sbl_work.proofs.TextReplyFacts.{rows_bytes, rows_utf8}
use Rattle.sbl_work.proofs.text_replies.tokens_of.Goals as goal

pub returns-in-Ok : goal.returns-in-Ok
returns-in-Ok c = λ s d.
    rows_utf8 IsTokensText s d c.in-Ok.text.now c.args.bytes.now c.tokens_text.result c.report.result c.in-Ok.ensures.cases.0 c.in-Ok.ensures.cases.1 c.tokens_text.ensures c.report.ensures.made c.report.ensures.refused

pub returns-in-Err : goal.returns-in-Err
returns-in-Err c = λ s d. rows_bytes IsTokensText s d c.args.bytes.now c.in-Err.ensures.cases.0
