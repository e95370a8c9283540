use Rattle.std.proofs.Common.{◌≡◌, take, fold}
use Rattle.sbl_last_runs.specs.WordHash.{with_number}
use Rattle.sbl_last_runs.proofs.word_hash.WordHasher.take_bytes.Given as goal

abbrev pub invariant-loop-byte : goal.invariant-loop-byte
invariant-loop-byte l = l.self ≡ fold with_number l.fn.self (take l.byte-index l.bytes)
