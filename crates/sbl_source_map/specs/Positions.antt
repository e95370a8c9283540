-- Lines and columns of a text, from its bytes.
use Rattle.std.specs.Prelude.{ℕ, ◌+◌, ◌-◌, ◌==◌, Bool, not, ◌&&◌, List, [], ◌∷◌, take, length, nat_lt, if◌then◌else◌}
use Rattle.std.specs.List.{list_any, count_by, slice_index}

abbrev pub is_line_feed : ℕ → Bool
is_line_feed b = b == 10

-- the byte is the first one of a character; the others are 128 to 191 in UTF-8
abbrev pub begins_character : ℕ → Bool
begins_character b = not (not (nat_lt b 128) && nat_lt b 192)

-- what is after the last line feed
abbrev pub last_line : List ℕ → List ℕ
last_line [] = []
last_line (b ∷ bs) = if list_any is_line_feed bs then last_line bs else (if is_line_feed b then bs else b ∷ bs)

-- the text without the line feed at its end, if it ends with one
abbrev pub without_end : List ℕ → List ℕ
without_end text = if is_line_feed (slice_index text (length text - 1)) then take (length text - 1) text else text

-- What is before a byte offset. An offset past the last byte is the end of the last line.
abbrev pub before : List ℕ → ℕ → List ℕ
before text offset = if nat_lt offset (length text) then take offset text else without_end text

-- the line of a byte offset, from 1: one more than the line feeds before it
abbrev pub line_of : List ℕ → ℕ → ℕ
line_of text offset = count_by is_line_feed (before text offset) + 1

-- the column of a byte offset, from 1: one more than the characters that begin between the last line feed and it
abbrev pub column_of : List ℕ → ℕ → ℕ
column_of text offset = count_by begins_character (last_line (before text offset)) + 1
