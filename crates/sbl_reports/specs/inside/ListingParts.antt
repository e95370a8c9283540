-- A name for a part of Listings.antt.
use Rattle.std.specs.Prelude.{ℕ, List, [], ◌∷◌}
use Rattle.std.specs.Option.{option_map_or}
use Rattle.sbl_rows.specs.Classes.{class_of}
use Rattle.sbl_rows.specs.Rows.{Row}
use Rattle.sbl_bench.specs.Contents.{Contents, rows_now}
use Rattle.sbl_io.specs.Records.{records_text}
use Rattle.sbl_records.specs.RowRecords.{class_fields, row_fields}

-- the record of a word's class, or of its row if its run is refused and it has no class
abbrev pub class_or_row_text : Contents → List ℕ → Row → List ℕ
class_or_row_text s word row = records_text (option_map_or class_fields (class_of (rows_now s) word) (row_fields row) ∷ [])
