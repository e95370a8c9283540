use Rattle.std.proofs.Common.{◌≡◌, IfOk, map, rules}
use Rattle.std.proofs.lemmas.Result.{IfOk-weaker}
use Rattle.sbl_rows.specs.Families.{view_result, view_results}
use Rattle.sbl_io.specs.Records.{records_text}
use Rattle.sbl_records.specs.FamilyRecords.{result_fields}
use Rattle.sbl_records.proofs.RecordFacts.{seen_lines}
use Rattle.sbl_reports.proofs.families.lists_text.Goals as goal

pub returns : goal.returns
returns c =
    let lines : IfOk c.records_text.result (λ text. text.items ≡ records_text (map result_fields (view_results c.in_ok-found.found.items))) =
    IfOk-weaker c.records_text.result _ _ (λ text e. seen_lines result_fields view_result _ _ _ e c.deref-2.ensures.value) c.records_text.ensures in
    search rules
