use Rattle.std.proofs.Common.{◌≡◌, ◌+◌, take}
use Rattle.std.specs.List.{count_by}
use Rattle.sbl_source_map.specs.Positions.{is_line_feed}
use Rattle.sbl_source_map.proofs.positions.line_after.Given as goal

abbrev pub invariant-loop-byte : goal.invariant-loop-byte
invariant-loop-byte l = l.line ≡ count_by is_line_feed (take l.byte-index l.bytes) + 1
