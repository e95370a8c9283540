use Rattle.std.proofs.Common.{◌≡◌, false, take}
use Rattle.std.specs.List.{list_any}
use Rattle.csv.specs.Writing.{needs_byte}
use Rattle.sbl_io.specs.Records.{flexible}
use Rattle.sbl_batch.proofs.lines.is_quoted.Given as goal

abbrev pub invariant-loop-byte : goal.invariant-loop-byte
invariant-loop-byte l = list_any (needs_byte flexible) (take l.byte-index l.field) ≡ false
