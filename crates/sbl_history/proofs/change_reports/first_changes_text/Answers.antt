use Rattle.std.proofs.Common.{◌≡◌, ◌∙◌, ◌++◌, ℕ, List, ap, sym}
use Rattle.sbl_bench.specs.Contents.{rows_now}
use Rattle.sbl_bench.specs.KeptRuns.{contents_of, setting_of}
use Rattle.sbl_rows.specs.Changes.{Change, changes_of, view_changes}
use Rattle.sbl_rows.specs.Rows.{Row, view_rows}
use Rattle.sbl_history.specs.ChangeReports.{first_changes_text, first_class_changes, first_word_changes}
use Rattle.sbl_history.proofs.ChangeReportFacts.{rows_append, rows_of}
use Rattle.sbl_history.proofs.change_reports.first_changes_text.Goals as goal

pub returns : goal.returns
unfolding first_changes_text
returns c =
    let n = c.args.number in
    let before : List Row = view_rows c.args.before.now in
    let changes : List Change = changes_of before (rows_now (contents_of c.args.bench.now)) in
    let rows : view_rows c.deref.result.now ≡ rows_now (contents_of c.args.bench.now) = ap view_rows c.deref.ensures.value ∙ c.in_ok-rows.ensures in
    let found : view_changes c.in_ok-found.found.items ≡ changes = c.in_ok-found.ensures (setting_of c.args.bench.now) c.args.bench.now.words rows ∙ ap (changes_of before) rows in
    let words : view_changes c.deref-2.result.now ≡ changes = ap view_changes c.deref-2.ensures.value ∙ found in
    let classes : view_changes c.deref-3.result.now ≡ changes = ap view_changes c.deref-3.ensures.value ∙ found in
    c.in_ok-push_first_of_each-2.ensures
    ∙ (λ i. (c.in_ok-push_first_of_each.ensures ∙ ap (λ (l : List ℕ). l ++ rows_of (first_word_changes n (view_changes c.deref-2.result.now))) c.new-out.ensures.items) i
    ++ rows_of (first_class_changes n (view_changes c.deref-3.result.now)))
    ∙ (λ i. rows_of (first_word_changes n (words i)) ++ rows_of (first_class_changes n (classes i)))
    ∙ sym (rows_append (first_word_changes n changes) (first_class_changes n changes))
