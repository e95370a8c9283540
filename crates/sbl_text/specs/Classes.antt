-- Classes of characters.
use Rattle.std.specs.Prelude.{ℕ, Bool, false, ◌&&◌, ◌||◌, ◌==◌, nat_le, List, [], ◌∷◌}
use Rattle.std.specs.Char.{is_ascii_alphabetic, is_ascii_digit}

-- the characters that begin and end literals, comments and lines
abbrev pub quote : ℕ
quote = 39

abbrev pub slash : ℕ
slash = 47

abbrev pub star : ℕ
star = 42

abbrev pub line_feed : ℕ
line_feed = 10

abbrev pub is_white : ℕ → Bool
is_white c = (nat_le 9 c && nat_le c 13) || (c == 32 || c == 0xFEFF)

-- a letter of ASCII, a digit or `_`
abbrev pub is_word : ℕ → Bool
is_word c = is_ascii_alphabetic c || (is_ascii_digit c || c == 95)

-- the text begins with this character
abbrev pub begins_with : ℕ → List ℕ → Bool
begins_with c [] = false
begins_with c (d ∷ ds) = d == c
