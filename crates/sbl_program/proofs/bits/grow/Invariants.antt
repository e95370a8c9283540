use Rattle.std.proofs.Common.{◌≡◌, ℕ, ◌-◌, length, slice_index_or}
use Rattle.sbl_program.proofs.bits.grow.Given as goal

-- no bit is set that was not
abbrev pub invariant-loop-words : goal.invariant-loop-words
invariant-loop-words l = (number : ℕ) → slice_index_or l.words.items number 0 ≡ slice_index_or l.initial.words.items number 0

abbrev pub decreases-loop-words : goal.decreases-loop-words
decreases-loop-words l = l.count - length l.words.items
