use Rattle.std.proofs.Common.{◌≡◌, ◌+◌, take}
use Rattle.std.specs.List.{count_by}
use Rattle.sbl_source_map.specs.Positions.{begins_character, last_line}
use Rattle.sbl_source_map.proofs.positions.column_after.Given as goal

abbrev pub invariant-loop-byte : goal.invariant-loop-byte
invariant-loop-byte l = l.column ≡ count_by begins_character (last_line (take l.byte-index l.bytes)) + 1
