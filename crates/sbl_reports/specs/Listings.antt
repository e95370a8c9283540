-- The listings of a bench: its rows, its classes, the class of a word, and what the run of a word touches.
use Rattle.std.specs.Prelude.{ℕ, List, [], ◌∷◌, map, Option}
use Rattle.std.specs.List.{find}
use Rattle.std.specs.Option.{option_map, option_map_or}
use Rattle.std.specs.Str.{bytes_eq}
use Rattle.sbl_rows.specs.Classes.{class_with, classes_of, stem_of}
use Rattle.sbl_bench.specs.Contents.{Contents, rows_now}
use Rattle.sbl_bench.specs.Traces.{trace_of}
use Rattle.sbl_io.specs.Records.{records_text}
use Rattle.sbl_records.specs.ItemRecords.{item_fields}
use Rattle.sbl_records.specs.RowRecords.{class_fields, row_fields}

unfoldable pub stems_text : Contents → List ℕ
stems_text s = records_text (map row_fields (rows_now s))

-- the classes of the current rows
unfoldable pub classes_text : Contents → List ℕ
classes_text s = records_text (map class_fields (classes_of (rows_now s)))

-- the report of a word: the record of the class of its stem, or of its row if its run is refused; none if the word is not in the
-- vocabulary
unfoldable pub class_text : Contents → List ℕ → Option (List ℕ)
class_text s word =
    option_map (λ row. records_text (option_map_or (λ stem. class_fields (class_with (rows_now s) stem)) (stem_of row.outcome) (row_fields row) ∷ []))
    (find (λ row. bytes_eq word row.word) (rows_now s))

-- a row for each item that a fresh run of the word touches; none if the word is not in the vocabulary
unfoldable pub trace_text : Contents → List ℕ → Option (List ℕ)
trace_text s word = option_map (λ items. records_text (map item_fields items)) (trace_of s.setting s.words word)
