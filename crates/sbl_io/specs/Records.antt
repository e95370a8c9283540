-- The text of records, as written by a `csv` writer that is flexible and otherwise has the default settings.
use Rattle.std.specs.Prelude.{ℕ, true, List}
use Rattle.std.specs.List.{flat_map}
use Rattle.csv.specs.Writing.{default_writer, with_flexible, row_text}
use Rattle.csv.specs.declared.writer.WriterBuilder.{WriterBuilder}

-- one record: its fields, and a line feed
abbrev pub record_line : List (List ℕ) → List ℕ
record_line fields = row_text (with_flexible default_writer true) fields

abbrev pub records_text : List (List (List ℕ)) → List ℕ
records_text records = flat_map record_line records

-- ---- names for proofs

abbrev pub flexible : WriterBuilder
flexible = with_flexible default_writer true
