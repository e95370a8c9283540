use Rattle.std.proofs.Common.{◌≡◌, ◌++◌, [], map, take}
use Rattle.std.specs.Str.{encode_utf8_all}
use Rattle.csv.specs.Records.{fields_of, partial_of}
use Rattle.sbl_rows.specs.Classes.{texts_of}
use Rattle.sbl_records.proofs.records.push_texts.Given as goal

abbrev pub invariant-loop-characters : goal.invariant-loop-characters
invariant-loop-characters l = (fields_of l.csv_record ≡ fields_of l.fn.csv_record ++ map encode_utf8_all (texts_of (take l.characters-index l.texts))) × (partial_of l.csv_record ≡ [])
