use Rattle.std.proofs.Common.{◌≡◌, ◌&&◌, ℕ, length, nat_lt, if◌then◌else◌}
use Rattle.sbl_program.specs.Bits.{word_has}
use Rattle.sbl_program.proofs.bits.put_bits.Given as goal

-- the words so far have the value
abbrev pub invariant-loop-number : goal.invariant-loop-number
invariant-loop-number l =
    (length l.words.items ≡ length l.initial.words.items)
    × ((number bit : ℕ) → word_has l.words.items number bit ≡ (if nat_lt number l.number && word_has l.others number bit then l.value else word_has l.initial.words.items number bit))
