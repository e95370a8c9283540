use Rattle.std.proofs.Common.{◌≡◌, ◌∙◌, List, length, ap, ap₂}
use Rattle.std.specs.List.{count_by}
use Rattle.sbl_bench.specs.Contents.{rows_now}
use Rattle.sbl_bench.specs.KeptRuns.{contents_of}
use Rattle.sbl_batch.specs.Comparing.{is_changed}
use Rattle.sbl_batch.proofs.CompareFacts.{changed-counted}
use Rattle.sbl_rows.proofs.FigureFacts.{count_by-map}
use Rattle.sbl_rows.specs.ChangedRows.{changed_rows}
use Rattle.sbl_rows.specs.Changes.{Change, changes_of, view_change, view_changes}
use Rattle.sbl_rows.specs.Rows.{view_rows}
use Rattle.sbl_rows.specs.declared.change.ChangeRow.{ChangeRow}
use Rattle.sbl_rows.specs.declared.row.Row.{Row}
use Rattle.sbl_script.specs.ParsedScript.{source_of}
use Rattle.sbl_semantics.specs.Differs.{differs}
use Rattle.sbl_tree_diff.specs.ItemsIn.{items_in}
use Rattle.sbl_batch.proofs.comparing.compare.Goals as goal

pub returns : goal.returns
returns c =
    let old = contents_of c.args.old.now in
    let new = contents_of c.args.new.now in
    let rows = c.in_ok-changes.changes.items in
    let differing : items_in c.in_ok-differing.differing ≡ differs old.setting.script new.setting.script =
    c.in_ok-differing.ensures ∙ ap₂ differs (ap source_of c.script.ensures) (ap source_of c.script-2.ensures) in
    let before : view_rows c.deref.result.now ≡ rows_now old = ap (λ (l : List Row). view_rows l) c.deref.ensures.value ∙ c.in_ok-before.ensures in
    let after : view_rows c.deref-2.result.now ≡ rows_now new = ap (λ (l : List Row). view_rows l) c.deref-2.ensures.value ∙ c.in_ok-after.ensures in
    let changes : view_changes rows ≡ changes_of (rows_now old) (rows_now new) = c.in_ok-changes.ensures ∙ ap₂ changes_of before after in
    let changed : c.changed_words-changed.result ≡ length (changed_rows (rows_now old) (rows_now new)) =
    c.changed_words-changed.ensures ∙ ap (λ (l : List ChangeRow). count_by (λ x. is_changed (view_change x)) l) c.deref-3.ensures.value
    ∙ count_by-map view_change is_changed rows ∙ ap (λ (l : List Change). count_by is_changed l) changes ∙ changed-counted (rows_now old) (rows_now new) in
    λ i. record { differing = differing i; changes = changes i; words = c.len.ensures i; changed = changed i }
