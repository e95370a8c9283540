use Rattle.std.proofs.Common.{◌≡◌, List, map, subst, sym}
use Rattle.sbl_bench.specs.Contents.{rows_now}
use Rattle.sbl_bench.specs.KeptRuns.{contents_of}
use Rattle.sbl_rows.specs.Classes.{Class, classes_of, view_class}
use Rattle.sbl_rows.specs.declared.class.Class as declared
use Rattle.sbl_records.specs.RowRecords.{class_fields}
use Rattle.sbl_reports.specs.Listings.{classes_text}
use Rattle.sbl_sessions.proofs.ReportFacts.{text_of_views}
use Rattle.sbl_sessions.proofs.reports.classes_text.Goals as goal

pub returns : goal.returns
unfolding classes_text
returns c =
    let all : List Class = classes_of (rows_now (contents_of c.args.bench.now)) in
    let are : map view_class c.in_ok-classes.classes.items ≡ all = c.in_ok-classes.ensures in
    let shown : map view_class c.deref.result.now ≡ all = subst (λ (xs : List declared.Class). map view_class xs ≡ all) (sym c.deref.ensures.value) are in
    text_of_views c.records_text_in_one_pass.result class_fields view_class c.deref.result.now all shown c.records_text_in_one_pass.ensures
