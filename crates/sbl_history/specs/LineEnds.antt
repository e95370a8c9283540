-- How the lines of a text end.
use Rattle.std.specs.Prelude.{ℕ, Bool, true, false, ◌==◌, ◌&&◌, ◌||◌, List, [], ◌∷◌, not, if◌then◌else◌}

-- whether each line feed follows a carriage return; this byte comes before the first one
abbrev pub all_crlf : ℕ → List ℕ → Bool
all_crlf before [] = true
all_crlf before (b ∷ rest) = (not (b == 10) || before == 13) && all_crlf b rest

abbrev pub has_feed : List ℕ → Bool
has_feed [] = false
has_feed (b ∷ rest) = b == 10 || has_feed rest

-- whether each line feed follows a carriage return, and there is one
abbrev pub has_crlf : List ℕ → Bool
has_crlf text = has_feed text && all_crlf 0 text

-- a byte of a text after this one: a line feed gets a carriage return before it, if it has none
abbrev pub crlf_byte : ℕ → ℕ → List ℕ → List ℕ
crlf_byte before b rest = if b == 10 && not (before == 13) then 13 ∷ b ∷ rest else b ∷ rest

abbrev pub with_crlf_after : ℕ → List ℕ → List ℕ
with_crlf_after before [] = []
with_crlf_after before (b ∷ rest) = crlf_byte before b (with_crlf_after b rest)

-- the text with a carriage return before each line feed that has none
abbrev pub with_crlf : List ℕ → List ℕ
with_crlf text = with_crlf_after 0 text
