-- What a text finds in a bench: the rows that have it, and the class of a stem.
use Rattle.std.specs.Prelude.{ℕ, Bool, false, ◌||◌, List, [], ◌∷◌, map, nat_eq, Option}
use Rattle.std.specs.List.{filter, find, starts_with}
use Rattle.std.specs.Option.{option_map, option_map_or}
use Rattle.std.specs.Str.{bytes_eq}
use Rattle.sbl_rows.specs.Classes.{classes_of, stem_of}
use Rattle.sbl_rows.specs.Rows.{Row}
use Rattle.sbl_bench.specs.Contents.{Contents, rows_now}
use Rattle.sbl_io.specs.Records.{records_text}
use Rattle.sbl_records.specs.RowRecords.{class_fields, row_fields}

-- whether a text contains another one
abbrev pub contains_text : List ℕ → List ℕ → Bool
contains_text [] part = starts_with nat_eq [] part
contains_text (c ∷ text) part = starts_with nat_eq (c ∷ text) part || contains_text text part

-- whether the word or the stem of a row contains a text; a word whose run is refused has no stem
abbrev pub row_contains : List ℕ → Row → Bool
row_contains part row = contains_text row.word part || option_map_or (λ stem. contains_text stem part) (stem_of row.outcome) false

-- the rows that contain a text, in vocabulary order
abbrev pub found_text : List ℕ → Contents → List ℕ
found_text part s = records_text (map row_fields (filter (row_contains part) (rows_now s)))

-- the class of a stem; none if no word has it
abbrev pub stem_text : List ℕ → Contents → Option (List ℕ)
stem_text stem s = option_map (λ class. records_text (class_fields class ∷ [])) (find (λ c. bytes_eq stem c.stem) (classes_of (rows_now s)))
