-- Records that have nothing in them.
use Rattle.std.specs.Prelude.{◌≡◌, []}
use Rattle.csv.specs.Records.{fields_of, partial_of}
use Rattle.csv.specs.declared.record.ByteRecord.{ByteRecord}

abbrev pub IsBlank : ByteRecord → Type 0
IsBlank r = (fields_of r ≡ []) × (partial_of r ≡ [])
