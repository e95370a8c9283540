use Rattle.std.proofs.Common.{◌≡◌, ◌≤◌, length, take, vec_capacity}
use Rattle.sbl_input.proofs.loading.ascii_characters.Given as goal

abbrev pub invariant-loop-byte : goal.invariant-loop-byte
invariant-loop-byte l = (l.word.items ≡ take l.byte-index l.line) × (length l.line ≤ vec_capacity l.word)
