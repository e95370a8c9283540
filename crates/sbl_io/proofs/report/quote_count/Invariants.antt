use Rattle.std.proofs.Common.{◌≡◌, ◌≤◌, ◌+◌, length, take}
use Rattle.csv.specs.Writing.{escaped}
use Rattle.sbl_io.specs.Records.{flexible}
use Rattle.sbl_io.proofs.report.quote_count.Given as goal

abbrev pub invariant-loop-byte : goal.invariant-loop-byte
invariant-loop-byte l = (l.count + l.byte-index ≡ length (escaped flexible (take l.byte-index l.field))) × (l.count ≤ l.byte-index)
