use Rattle.std.proofs.Common.{◌≡◌, ◌∙◌, IfOk, List, ap, map}
use Rattle.std.proofs.lemmas.Result.{IfOk-weaker}
use Rattle.sbl_bench.specs.Contents.{rows_now}
use Rattle.sbl_bench.specs.KeptRuns.{contents_of, setting_of}
use Rattle.sbl_rows.specs.Changes.{Change, changes_of, view_change, view_changes}
use Rattle.sbl_rows.specs.Rows.{view_rows}
use Rattle.sbl_io.specs.Records.{records_text}
use Rattle.sbl_records.specs.ChangeRecords.{change_fields}
use Rattle.sbl_records.proofs.RecordFacts.{seen_lines}
use Rattle.sbl_history.proofs.change_reports.changes_text.Goals as goal

pub returns : goal.returns
returns c =
    let before = view_rows c.args.before.now in
    let rows : view_rows c.deref.result.now ≡ rows_now (contents_of c.args.bench.now) = ap view_rows c.deref.ensures.value ∙ c.in_ok-rows.ensures in
    let found : view_changes c.in_ok-found.found.items ≡ changes_of before (rows_now (contents_of c.args.bench.now)) =
    c.in_ok-found.ensures (setting_of c.args.bench.now) c.args.bench.now.words rows ∙ ap (changes_of before) rows in
    let lines : IfOk c.records_text.result (λ text. text.items ≡ records_text (map change_fields (view_changes c.in_ok-found.found.items))) =
    IfOk-weaker c.records_text.result _ _ (λ text e. seen_lines change_fields view_change _ _ _ e c.deref-2.ensures.value) c.records_text.ensures in
    IfOk-weaker c.records_text.result _ _ (λ text e. e ∙ ap (λ (cs : List Change). records_text (map change_fields cs)) found) lines
