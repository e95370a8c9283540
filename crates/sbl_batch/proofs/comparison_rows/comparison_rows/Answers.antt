use Rattle.std.proofs.Common.{rules, ◌≡◌, ◌∙◌, ◌++◌, ◌∷◌, [], ℕ, List, ap, append_assoc, map}
use Rattle.sbl_batch.specs.Compare.{differs_rows, words_row}
use Rattle.sbl_batch.specs.Comparing.{fields_in}
use Rattle.sbl_batch.specs.declared.comparison_rows.ComparisonRow.{ComparisonRow}
use Rattle.sbl_records.specs.ChangeRecords.{change_fields}
use Rattle.sbl_rows.specs.Changes.{view_changes}
use Rattle.sbl_rows.specs.declared.change.ChangeRow.{ChangeRow}
use Rattle.sbl_tree_diff.specs.ItemsIn.{items_in}
use Rattle.sbl_batch.proofs.comparison_rows.comparison_rows.Goals as goal

abbrev Rows : Type 0
Rows = List (List (List ℕ))

pub returns : goal.returns
returns c =
    let compared = c.args.comparison.now in
    let parts = differs_rows (items_in compared.differing) in
    let changes = map change_fields (view_changes compared.changes.items) in
    let last = words_row compared.words compared.changed ∷ [] in
    let empty : c.new-rows.result.items ≡ [] = search rules in
    let first : map fields_in c.push_differing.new.rows.items ≡ parts =
    c.in_ok-push_differing.ensures ∙ ap (λ (l : List ComparisonRow). map fields_in l ++ parts) empty in
    c.in_ok-push_row.ensures
    ∙ ap (λ (l : Rows). l ++ last)
    (c.in_ok-push_changes.ensures
    ∙ ap (λ (l : List ChangeRow). map fields_in c.push_differing.new.rows.items ++ map change_fields (view_changes l)) c.deref.ensures.value
    ∙ ap (λ (l : Rows). l ++ changes) first)
    ∙ append_assoc parts changes last
