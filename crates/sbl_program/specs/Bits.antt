-- Bits in words of 64, counted from the lowest bit of the first word.
use Rattle.std.specs.Prelude.{ℕ, Bool, List, ◌/◌, ◌%◌, nat_eq, slice_index_or}
use Rattle.std.specs.Int.{bit_at}

-- the word has the bit
abbrev pub has_bit : ℕ → ℕ → Bool
has_bit word bit = nat_eq (bit_at word bit) 1

-- the word with this number has the bit; past the end no bit is set
abbrev pub word_has : List ℕ → ℕ → ℕ → Bool
word_has words number bit = has_bit (slice_index_or words number 0) bit

-- the bit at index `place` is set
abbrev pub is_set : List ℕ → ℕ → Bool
is_set words place = word_has words (place / 64) (place % 64)
