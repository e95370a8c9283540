-- What has taken some text takes the lines of rows after it.
use Rattle.std.specs.Prelude.{ℕ, List}
use Rattle.sbl_io.specs.Records.{records_text}
use Rattle.sbl_io.specs.Reports.{TakesMore}
use Rattle.sbl_rows.specs.Setting.{Setting}
use Rattle.sbl_uses.specs.Parts.{Part}
use Rattle.sbl_uses.specs.Unused.{rows_of_parts}

abbrev pub TakesRows : {T : Type 0} → (T → List ℕ → Type 0) → T → T → List (List (List ℕ)) → Type 0
TakesRows has_taken old new rows = TakesMore has_taken old new (records_text rows)

-- the lines of what no word uses of some parts
abbrev pub parts_text : Setting → List (List ℕ) → List Part → List ℕ
parts_text s words parts = records_text (rows_of_parts s words parts)
