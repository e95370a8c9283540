-- The line of a row that may be missing.
use Rattle.std.specs.Prelude.{ℕ, List, [], Option, Some, None}
use Rattle.sbl_io.specs.Records.{record_line}

-- its line; nothing if there is no row
abbrev pub line_if : Option (List (List ℕ)) → List ℕ
line_if None = []
line_if (Some row) = record_line row
