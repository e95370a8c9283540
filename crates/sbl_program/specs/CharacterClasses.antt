-- Classes of characters as they are stored: one bit for each code point, the first 4,096 directly, the others in
-- blocks.
use Rattle.std.specs.Prelude.{ℕ, Bool, List, [], ◌/◌, ◌%◌, nat_lt, if◌then◌else◌, slice_index_or}
use Rattle.sbl_program.specs.Bits.{is_set}

-- the block with this number has the bit; past the end no bit is set
abbrev pub is_in_block : List (List ℕ) → ℕ → ℕ → Bool
is_in_block blocks number place = is_set (slice_index_or blocks number []) place

-- the bit at index `place` is set
abbrev pub has_place : List (List ℕ) → ℕ → Bool
has_place blocks place = is_in_block blocks (place / 4096) (place % 4096)

-- the class contains the character: a code point below 4,096 is looked up directly, others in the blocks
unfoldable pub members : List ℕ × List (List ℕ) → ℕ → Bool
members kept c = if nat_lt c 4096 then is_set kept.0 c else has_place kept.1 c
