-- What walks over the tokens keep.
use Rattle.std.specs.Prelude.{ℕ, ◌≤◌, Bool, List, [], ◌∷◌, reverse, Option, option_map}
use Rattle.std.specs.List.{slice_get}
use Rattle.sbl_text.specs.Tokens.{PlacedToken}
use Rattle.sbl_source_map.specs.SubjectTokens.{SubjectToken}
use Rattle.sbl_source_map.specs.declared.subject_tokens.Brackets.{Brackets}

-- the parentheses that are open, the innermost first
abbrev pub open_in : Brackets → List Bool
open_in b = reverse b.open.items

-- the byte offsets of the beginning and the end of a token
abbrev pub range_of : SubjectToken → ℕ × ℕ
range_of m = (m.token.start, m.token.end)

-- those of the token with this number, from 0
abbrev pub range_at : ℕ → List SubjectToken → Option (ℕ × ℕ)
range_at k ms = option_map range_of (slice_get ms k)

-- the tokens are one after another, none before byte n and none after the end
abbrev pub InOrder : ℕ → List PlacedToken → ℕ → Type 0
InOrder n [] end = n ≤ end
InOrder n (t ∷ ts) end = (n ≤ t.start) × (t.start ≤ t.end) × InOrder t.end ts end
