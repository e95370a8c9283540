use Rattle.std.proofs.Common.{◌∙◌}
use Rattle.sbl_reports.proofs.StemFacts.{text_is}
use Rattle.sbl_reports.proofs.written_stems.is_text.Goals as goal

pub returns : goal.returns
returns c =
    c.is_ok.ensures.value ∙ text_is c.args.bytes.now c.from_utf8.result _ _ c.from_utf8.ensures.cases
