-- Where what is wrong with a text begins and ends.
use Rattle.std.specs.Prelude.{◌≡◌, ◌⊎◌, ℕ, ◌+◌, ◌-◌, ◌==◌, nat_eq, Bool, true, false, not, ◌&&◌, if◌then◌else◌, List, [], ◌∷◌, ◌++◌}
use Rattle.std.specs.Prelude.{length, Option, Some, None, MatchOption}
use Rattle.std.specs.Str.{IsValidUpTo, chars}
use Rattle.sbl_text.specs.Classes.{quote}
use Rattle.sbl_text.specs.Directives.{Directives, start}
use Rattle.sbl_text.specs.Escapes.{opens, closes}
use Rattle.sbl_text.specs.Literals.{byte_length}
use Rattle.sbl_text.specs.Tokens.{AreCut, ArePlaced, IsFault, Piece, PlacedToken}
use Rattle.sbl_text.specs.declared.escapes.Inserts.{Inserts}
use Rattle.sbl_text.specs.declared.fault.ScriptFault.{ScriptFault}
use Rattle.sbl_text.specs.declared.fault.ScriptFault.TheVariants as fault
use Rattle.sbl_source_map.specs.FaultPlaces.{place_in}

-- ---- what is at a place

-- the end of the token that begins at this byte; the byte itself if none does, as at the end of the text
abbrev pub token_end : ℕ → List PlacedToken → ℕ
token_end place [] = place
token_end place (t ∷ ts) = if nat_eq t.start place then t.end else token_end place ts

-- The text after a literal, given the text after its opening quote. `inside`: an insertion has begun.
abbrev pub past_literal : Option Inserts → Bool → List ℕ → List ℕ
past_literal e inside [] = []
past_literal e true (c ∷ cs) = past_literal e (not (closes e c)) cs
past_literal e false (c ∷ cs) = if c == quote then cs else past_literal e (opens e c) cs

abbrev pub is_bad_code : ScriptFault → Bool
is_bad_code (fault.BadCode place) = true
is_bad_code _ = false

-- The text after what the lexer refuses, given its fault and the text from the place of the fault on. This is a literal if its
-- characters are no codes. Otherwise it is one character; nothing at the end of the text.
abbrev pub past_refused : Option Inserts → ScriptFault → List ℕ → List ℕ
past_refused e f [] = []
past_refused e f (c ∷ cs) = if is_bad_code f && c == quote then past_literal e false cs else cs

-- the first fault of a text, in this state of the lexer: the pieces before it have none
abbrev pub StopsIn : List ℕ → Directives → ScriptFault → Type 0
StopsIn text s f =
    (before : List ℕ) × (at : List ℕ) × (ps : List Piece) × (text ≡ before ++ at) × AreCut start text ps s at × IsFault s at (byte_length before) f

-- the end of what the lexer refuses from this byte on
abbrev pub IsRefusedEnd : List ℕ → Option Inserts → ScriptFault → ℕ → ℕ → Type 0
IsRefusedEnd text e f place end =
    (x at : List ℕ) → text ≡ x ++ at → place ≡ byte_length x → end ≡ byte_length text - byte_length (past_refused e f at)

-- The end of what is at this byte of a text: of the token there if the text has tokens, otherwise of what the lexer refuses.
abbrev pub IsEndAt : List ℕ → ℕ → ℕ → Type 0
IsEndAt text place end =
    ((ts : List PlacedToken) × ArePlaced text ts × (end ≡ token_end place ts))
    ⊎ ((s : Directives) × (f : ScriptFault) × StopsIn text s f × IsRefusedEnd text s.escapes.inserts f place end)

-- ---- what a fault is at

-- The range of bytes that a fault of these bytes is at: that of what is at its place; of bytes that are not UTF-8, the first byte
-- that no UTF-8 text has there. A fault without a place has no range.
abbrev pub IsRange : List ℕ → ScriptFault → Option (ℕ × ℕ) → Type 0
IsRange bytes fault.NotUtf8 range = (place : ℕ) × IsValidUpTo bytes place × (range ≡ Some (place, place + 1))
IsRange bytes f range =
    MatchOption (place_in f) (range ≡ None) (λ place. (end : ℕ) × IsEndAt (chars bytes) place end × (range ≡ Some (place, end)))
