use Rattle.std.proofs.Common.{◌≡◌, ◌≤◌, [], length, take}
use Rattle.std.specs.Str.{encode_utf8_all}
use Rattle.csv.specs.Records.{fields_of, partial_of}
use Rattle.sbl_io.proofs.records.push_text.Given as goal

abbrev pub invariant-loop-c : goal.invariant-loop-c
invariant-loop-c l =
    (l.end ≡ l.c-index) × (l.end ≤ 64) × (length l.room ≡ 64) × (take l.end l.room ≡ encode_utf8_all (take l.c-index l.characters))
    × (fields_of l.csv_record ≡ fields_of l.fn.csv_record) × (partial_of l.csv_record ≡ [])
