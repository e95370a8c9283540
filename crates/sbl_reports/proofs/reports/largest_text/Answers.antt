use Rattle.std.proofs.Common.{◌≡◌, IfOk, map, rules}
use Rattle.std.proofs.lemmas.Result.{IfOk-weaker}
use Rattle.sbl_rows.specs.Classes.{view_stem_class, view_stem_classes}
use Rattle.sbl_io.specs.Records.{records_text}
use Rattle.sbl_records.specs.RowRecords.{class_fields}
use Rattle.sbl_records.proofs.RecordFacts.{seen_lines}
use Rattle.sbl_reports.proofs.reports.largest_text.Goals as goal

pub returns : goal.returns
returns c =
    let lines : IfOk c.records_text.result (λ text. text.items ≡ records_text (map class_fields (view_stem_classes c.in_ok-classes.classes.items))) =
    IfOk-weaker c.records_text.result _ _ (λ text e. seen_lines class_fields view_stem_class _ _ _ e c.deref-2.ensures.value) c.records_text.ensures in
    search rules
