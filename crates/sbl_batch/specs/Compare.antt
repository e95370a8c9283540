-- What a comparison of two scripts says: in which items they differ, and what that changes over a vocabulary.
use Rattle.std.specs.Prelude.{◌≡◌, ◌⊎◌, ◌++◌, ◌==◌, ℕ, List, [], ◌∷◌, Option, Some, None, Result, Ok, Err, codes, decimal, length, map, take}
use Rattle.std.specs.Prelude.{if◌then◌else◌}
use Rattle.std.specs.Io.KnownBytes.{Appends}
use Rattle.sbl_ast.specs.Source.{Source}
use Rattle.sbl_batch.specs.declared.bench_pair.CompareFault.{CompareFault}
use Rattle.sbl_batch.specs.declared.bench_pair.CompareFault.TheVariants.{Old, New, Words, Rows}
use Rattle.sbl_batch.specs.declared.bench_pair.CompareInput.{CompareInput}
use Rattle.sbl_batch.specs.declared.comparing.ScriptComparison as declared
use Rattle.sbl_bench.specs.Contents.{Contents, opening_contents, rows_now}
use Rattle.sbl_bench.specs.declared.fault.EditFault.TheVariants as edit
use Rattle.sbl_input.specs.FileWords.{file_fault, file_words}
use Rattle.sbl_input.specs.declared.faults.LoadFault.{LoadFault}
use Rattle.sbl_input.specs.declared.faults.LoadFault.TheVariants.{Input, Open, Script}
use Rattle.sbl_io.specs.Records.{records_text}
use Rattle.sbl_io.specs.declared.faults.ServeFault.TheVariants as fault
use Rattle.sbl_records.specs.ItemRecords.{item_fields}
use Rattle.sbl_records.specs.ChangeRecords.{change_fields}
use Rattle.sbl_rows.specs.ChangedRows.{changed_rows}
use Rattle.sbl_rows.specs.Changes.{Change, changes_of, view_changes}
use Rattle.sbl_script.specs.Reading.{IsFaultOf, IsScriptOf}
use Rattle.sbl_semantics.specs.Differs.{differs}
use Rattle.sbl_ast.specs.NamedParts.{Part'}
use Rattle.sbl_text.specs.declared.fault.ScriptFault.{ScriptFault}
use Rattle.sbl_text.specs.declared.fault.ScriptFault.TheVariants as script
use Rattle.sbl_tree_diff.specs.ItemsIn.{items_in}

-- ---- the comparison

-- The items in which the scripts differ, or none if they differ in more than bodies of routines and terms of groupings; what changes
-- from the rows of the old script to those of the new one; the number of words, and of words with another outcome.
pub record Comparison : Type 0 where
  pub differing : Option (List Part')
  pub changes : List Change
  pub words : ℕ
  pub changed : ℕ

-- of two benches: that of the old script and that of the new one
abbrev pub comparison_of : Contents → Contents → Comparison
comparison_of old new = record {
  differing = differs old.setting.script new.setting.script;
  changes = changes_of (rows_now old) (rows_now new);
  words = length new.words;
  changed = length (changed_rows (rows_now old) (rows_now new));
}

-- the comparison that the code's value represents
abbrev pub view_comparison : declared.ScriptComparison → Comparison
view_comparison c = record { differing = items_in c.differing; changes = view_changes c.changes.items; words = c.words; changed = c.changed }

-- the exit status if so many words changed
abbrev pub compare_status : ℕ → ℕ
compare_status changed = if changed == 0 then 0 else 1

-- ---- its rows

unfoldable pub item_row : Part' → List (List ℕ)
item_row item = codes "differs" ∷ item_fields item

unfoldable pub script_row : List (List ℕ)
script_row = codes "differs" ∷ codes "script" ∷ []

unfoldable pub words_row : ℕ → ℕ → List (List ℕ)
words_row words changed = codes "words" ∷ decimal words ∷ decimal changed ∷ []

-- a row for each item; one row if the scripts differ in more
abbrev pub differs_rows : Option (List Part') → List (List (List ℕ))
differs_rows None = script_row ∷ []
differs_rows (Some items) = map item_row items

abbrev pub comparison_rows : Comparison → List (List (List ℕ))
comparison_rows c = differs_rows c.differing ++ (map change_fields c.changes ++ words_row c.words c.changed ∷ [])

abbrev pub comparison_text : Comparison → List ℕ
comparison_text c = records_text (comparison_rows c)

-- ---- of files

-- These are the benches of the two scripts, both with this external, over the vocabulary of the words, under 100,000 steps.
pub record IsPair (input : CompareInput) (old new : Contents) : Type 0 where
  pub old_script : Source
  pub new_script : Source
  pub is_old : IsScriptOf input.old.now input.external.now old_script
  pub is_new : IsScriptOf input.new.now input.external.now new_script
  pub sound : file_fault input.words.now ≡ None
  pub old_bench : old ≡ opening_contents old_script (file_words input.words.now)
  pub new_bench : new ≡ opening_contents new_script (file_words input.words.now)

-- the bytes have this fault as a script, or an allocation failed
abbrev pub HasScriptFault : List ℕ → List ℕ → ScriptFault → Type 0
HasScriptFault bytes external f = (f ≡ script.OutOfMemory) ⊎ IsFaultOf bytes external f

-- the words of the file have this fault, or an allocation failed
abbrev pub HasWordsFault : List ℕ → LoadFault → Type 0
HasWordsFault bytes f = (f ≡ Input fault.OutOfMemory) ⊎ (f ≡ Open edit.OutOfMemory) ⊎ (file_fault bytes ≡ Some f)

-- the bytes are a script
abbrev pub HasScript : List ℕ → List ℕ → Type 0
HasScript bytes external = (s : Source) × IsScriptOf bytes external s

-- the fault without what has it
abbrev pub cause_of : CompareFault → LoadFault
cause_of (Old f) = Script f
cause_of (New f) = Script f
cause_of (Words f) = f
cause_of (Rows f) = Input f

-- Why there are no such benches: the fault of the old script, else that of the new one, else that of the words.
abbrev pub LacksPair : CompareInput → CompareFault → Type 0
LacksPair input (Old f) = HasScriptFault input.old.now input.external.now f
LacksPair input (New f) = HasScript input.old.now input.external.now × HasScriptFault input.new.now input.external.now f
LacksPair input (Words f) =
    HasScript input.old.now input.external.now × HasScript input.new.now input.external.now × HasWordsFault input.words.now f
LacksPair input (Rows f) = ⊥

-- What a comparison of files writes and returns: all rows, and the number of changed words; or nothing, and why there are no benches. If the
-- writer fails, a prefix of the rows is written, and if an allocation for the rows fails, nothing.
abbrev pub Compares : CompareInput → Option (List ℕ) → Option (List ℕ) → Result ℕ CompareFault → Type 0
Compares input held new_held (Ok changed) =
    (old new : Contents) × IsPair input old new × (changed ≡ (comparison_of old new).changed)
    × Appends held new_held (comparison_text (comparison_of old new))
Compares input held new_held (Err (Rows fault.Write)) =
    (old new : Contents) × IsPair input old new × (n : ℕ) × Appends held new_held (take n (comparison_text (comparison_of old new)))
Compares input held new_held (Err (Rows f)) = (f ≡ fault.OutOfMemory) × Appends held new_held []
Compares input held new_held (Err f) = LacksPair input f × Appends held new_held []
