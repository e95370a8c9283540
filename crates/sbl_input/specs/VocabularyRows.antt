-- The rows of a vocabulary that is loaded without a bench.
use Rattle.std.specs.Prelude.{◌≡◌, ℕ, List, [], Option, None, Result, Ok, Err, map}
use Rattle.std.specs.Str.{chars}
use Rattle.sbl_ast.specs.Source.{Source}
use Rattle.sbl_bench.specs.Contents.{IsFaultOrMemory, opening_contents, opening_fault}
use Rattle.sbl_rows.specs.Rows.{rows_of}
use Rattle.sbl_rows.specs.Setting.{under}
use Rattle.sbl_bench.specs.declared.fault.EditFault.{EditFault}
use Rattle.sbl_io.specs.Records.{records_text}
use Rattle.sbl_semantics.specs.Limit.{default_limit}
use Rattle.sbl_input.specs.Loading.{IsInput, IsLoadFault}
use Rattle.sbl_records.specs.RowRecords.{row_fields}
use Rattle.sbl_reports.specs.Listings.{stems_text}
use Rattle.sbl_input.specs.WordLists.{HoldsWords}
use Rattle.sbl_input.specs.declared.loading.ParsedInput.{ParsedInput}
use Rattle.sbl_script.specs.ParsedScript.{source_of}
use Rattle.sbl_input.specs.declared.faults.LoadFault.{LoadFault}

-- The script and the words of an input were read; or why there is no bench of it.
abbrev pub ReadsInput : Option (List ℕ) → Option (List ℕ) → List ℕ → Result ParsedInput LoadFault → Type 0
ReadsInput old new external (Ok input) =
    (lines : List (List ℕ)) × IsInput old new external (source_of input.script) lines × HoldsWords input.words (map chars lines)
ReadsInput old new external (Err f) = IsLoadFault old new external f

-- ---- the rows

-- the text of the rows of words
abbrev pub text_of_rows : Source → List (List ℕ) → List ℕ
text_of_rows s words = records_text (map row_fields (rows_of (under s default_limit) words))

-- the text of the rows that a bench of these words has; or a fault of the words, or an allocation failed
abbrev pub RowsOpen : {B : Type 0} → Source → List (List ℕ) → (List ℕ → B → Type 0) → Result B EditFault → Type 0
RowsOpen s words is (Ok b) = (opening_fault [] words ≡ None) × is (stems_text (opening_contents s words)) b
RowsOpen s words is (Err f) = IsFaultOrMemory (opening_fault [] words) f
