use Rattle.std.proofs.Common.{◌≡◌, ◌<◌, ℕ, true}
use Rattle.sbl_program.specs.Bits.{word_has}
use Rattle.sbl_program.proofs.bits.are_put.Given as goal

-- whether the words so far have the value
abbrev pub invariant-loop-number : goal.invariant-loop-number
invariant-loop-number l =
    (l.all ≡ true → (number bit : ℕ) → number < l.number → word_has l.others number bit ≡ true → word_has l.words number bit ≡ l.value)
    × (((number bit : ℕ) → number < l.number → bit < 64 → word_has l.others number bit ≡ true → word_has l.words number bit ≡ l.value) → l.all ≡ true)
