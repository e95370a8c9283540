use Rattle.std.proofs.Common.{◌≡◌, ◌++◌, [], map, take}
use Rattle.std.specs.Str.{encode_utf8_all}
use Rattle.csv.specs.Records.{fields_of, partial_of}
use Rattle.sbl_rows.specs.Classes.{words_of}
use Rattle.sbl_records.proofs.row_records.push_words.Given as goal

abbrev pub invariant-loop-word : goal.invariant-loop-word
invariant-loop-word l = (fields_of l.csv_record ≡ fields_of l.fn.csv_record ++ map encode_utf8_all (words_of (take l.word-index l.words))) × (partial_of l.csv_record ≡ [])
