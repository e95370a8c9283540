-- While a comparison is made and written.
use Rattle.std.specs.Prelude.{◌≡◌, ℕ, Bool, true, false, List}
use Rattle.sbl_batch.specs.Compare.{comparison_of, comparison_text, item_row, script_row, words_row}
use Rattle.sbl_batch.specs.declared.comparison_rows.ComparisonRow.{ComparisonRow}
use Rattle.sbl_batch.specs.declared.comparison_rows.ComparisonRow.TheVariants as row
use Rattle.sbl_bench.specs.Contents.{Contents}
use Rattle.sbl_records.specs.ChangeRecords.{change_fields}
use Rattle.sbl_rows.specs.Changes.{Added, Change, Changed, Merged, Removed, Renamed, Split, view_change}
use Rattle.sbl_semantics.specs.TouchedItems.{item_of}

-- whether the outcome of a word changed
abbrev pub is_changed : Change → Bool
is_changed (Added word) = false
is_changed (Removed word) = false
is_changed (Changed word before after) = true
is_changed (Split stem into) = false
is_changed (Merged stem from) = false
is_changed (Renamed before after) = false

-- the fields of a row of the code
abbrev pub fields_in : ComparisonRow → List (List ℕ)
fields_in (row.Item item) = item_row (item_of item.now)
fields_in row.Script = script_row
fields_in (row.Change change) = change_fields (view_change change.now)
fields_in (row.Words words changed) = words_row words changed

-- the text of the comparison of two benches, and the number of words that changed
abbrev pub IsText : Contents → Contents → List ℕ → ℕ → Type 0
IsText old new text changed = (text ≡ comparison_text (comparison_of old new)) × (changed ≡ (comparison_of old new).changed)
