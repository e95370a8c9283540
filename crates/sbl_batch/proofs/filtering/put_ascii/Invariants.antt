use Rattle.std.proofs.Common.{◌≡◌, ◌≤◌, length, take, vec_capacity}
use Rattle.sbl_batch.proofs.filtering.put_ascii.Given as goal

abbrev pub invariant-loop-byte : goal.invariant-loop-byte
invariant-loop-byte l = (l.characters.items ≡ take l.byte-index l.word) × (length l.word ≤ vec_capacity l.characters)
