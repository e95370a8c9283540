-- The tokens of a text, and its first fault.
use Rattle.std.specs.Prelude.{◌≡◌, ◌⊎◌, ℕ, ◌<◌, ◌≤◌, ◌+◌, ◌-◌, ◌*◌, true, ◌&&◌, ◌==◌, if◌then◌else◌, List, [], ◌∷◌, ◌++◌}
use Rattle.std.specs.Prelude.{encode_utf8_all, filter_map, fold, drop, Option, Some, None, MatchOption, option_map, Result, Ok, Err}
use Rattle.std.specs.List.{cons_option}
use Rattle.std.specs.Option.{option_map_or}
use Rattle.sbl_token.specs.declared.signs.Sign.{Sign}
use Rattle.sbl_token.specs.declared.words.Word.{Word}
use Rattle.sbl_text.specs.declared.pieces.Shape.{Shape}
use Rattle.sbl_text.specs.declared.pieces.Shape.TheVariants as shape
use Rattle.sbl_text.specs.declared.fault.ScriptFault.{ScriptFault}
use Rattle.sbl_text.specs.declared.fault.ScriptFault.TheVariants as fault
use Rattle.sbl_token.specs.declared.token.Token.{Token}
use Rattle.sbl_token.specs.Signs.{sign_text}
use Rattle.sbl_token.specs.Words.{word_of}
use Rattle.sbl_text.specs.declared.pieces.Expectation.{Expectation}
use Rattle.sbl_text.specs.declared.pieces.Expectation.TheVariants as wanted
use Rattle.sbl_text.specs.Pieces.{IsPiece, NoPiece, AfterGaps, is_gap}
use Rattle.sbl_text.specs.Directives.{Directives, start, setting_of, value_for, after}
use Rattle.sbl_text.specs.Literals.{byte_length, Means, FirstWrong}
use Rattle.sbl_token.specs.Lexemes.{Lexeme, word, sign, name, number, literal, inserts, macro_name, lexeme_of, SaysFitting}
use Rattle.sbl_text.specs.Classes.{quote, slash, star, begins_with}

-- the number that the digits write
abbrev pub number_of : List ℕ → ℕ
number_of text = fold (λ n c. n * 10 + (c - 48)) 0 text

-- the lexeme that a text of this shape means; white space and comments mean none
abbrev pub IsLexeme : Directives → Shape → List ℕ → Lexeme → Type 0
IsLexeme s shape.Word x l = l ≡ option_map_or word (word_of (encode_utf8_all x)) (name (encode_utf8_all x))
IsLexeme s shape.Number x l = (number_of x ≤ 2147483647) × (l ≡ number (number_of x))
IsLexeme s shape.Sign x l = (g : Sign) × (x ≡ sign_text g) × (l ≡ sign g)
IsLexeme s shape.Literal x l =
    (inner : List ℕ) × (v : List ℕ) × (x ≡ quote ∷ (inner ++ quote ∷ [])) × Means s.escapes inner v × (l ≡ literal (encode_utf8_all inner) v)
IsLexeme s shape.Inserts x l = (a : ℕ) × (b : ℕ) × (x ≡ a ∷ b ∷ []) × (l ≡ inserts a b)
IsLexeme s shape.MacroName x l = l ≡ macro_name (encode_utf8_all x)
IsLexeme s _ x l = ⊥

-- a literal after `stringdef` has a value for the macro
abbrev pub HasValue : Directives → Lexeme → Type 0
HasValue s (literal spelling v) = (w : List ℕ) × (value_for s.defining v ≡ Some w)
HasValue s _ = Unit {0}

-- The meaning of a token: a reserved word is not a name, a number is at most 2147483647, a literal means its
-- characters.
abbrev pub Says : Directives → Shape → List ℕ → Lexeme → Type 0
Says s k x l = IsLexeme s k x l × HasValue s l

-- a piece, and its lexeme unless it is white space or a comment
pub record Piece : Type 0 where
  pub shape : Shape
  pub text : List ℕ
  pub lexeme : Option Lexeme

-- The text begins with these pieces, one after another, each the longest in the state after those before it. s is the
-- state before them, t the state after them.
abbrev pub AreCut : Directives → List ℕ → List Piece → Directives → List ℕ → Type 0
AreCut s text [] t rest = (text ≡ rest) × (s ≡ t)
AreCut s text (p ∷ ps) t rest = (following : List ℕ) × (text ≡ p.text ++ following) × IsPiece (setting_of s) p.shape p.text following
    × MatchOption p.lexeme (is_gap p.shape ≡ true) (Says s p.shape p.text) × AreCut (option_map_or (after s) p.lexeme s) following ps t rest

-- the lexemes of the pieces, in order
abbrev pub piece_lexemes : List Piece → List Lexeme
piece_lexemes ps = filter_map (λ p. p.lexeme) ps

-- the text may end here: no insert characters are expected
abbrev pub MayEnd : Directives → Type 0
MayEnd s = s.wanted ≡ wanted.Inserts → ⊥

abbrev pub AreTokensFrom : Directives → List ℕ → List Lexeme → Type 0
AreTokensFrom s text ls = (ps : List Piece) × (t : Directives) × AreCut s text ps t [] × MayEnd t × (ls ≡ piece_lexemes ps)

-- the tokens of a text
abbrev pub AreTokens : List ℕ → List Lexeme → Type 0
AreTokens text ls = AreTokensFrom start text ls

-- ---- positions

-- a lexeme, the bytes of its text, and the byte offsets of its start and end
pub record PlacedToken : Type 0 where
  pub lexeme : Lexeme
  pub text : List ℕ
  pub start : ℕ
  pub end : ℕ

abbrev pub placed_of : Token → PlacedToken
placed_of t = record { lexeme = lexeme_of t; text = t.text.now; start = t.start; end = t.end }

-- the tokens among the pieces, starting at this byte offset
abbrev pub placed_from : ℕ → List Piece → List PlacedToken
placed_from place [] = []
placed_from place (p ∷ ps) =
    cons_option (option_map (λ l. record { lexeme = l; text = encode_utf8_all p.text; start = place; end = place + byte_length p.text }) p.lexeme)
    (placed_from (place + byte_length p.text) ps)

-- the tokens of a text with their positions
abbrev pub ArePlacedFrom : Directives → List ℕ → List PlacedToken → Type 0
ArePlacedFrom s text ts = (ps : List Piece) × (t : Directives) × AreCut s text ps t [] × MayEnd t × (ts ≡ placed_from 0 ps)

abbrev pub ArePlaced : List ℕ → List PlacedToken → Type 0
ArePlaced text ts = ArePlacedFrom start text ts

-- ---- faults

-- the fault if there is no piece; if two insert characters are expected, it is at a quote, or after the first character
abbrev pub fault_at : Expectation → List ℕ → ℕ → ScriptFault
fault_at wanted.Inserts [] place = fault.BadCharacter place
fault_at wanted.Inserts (c ∷ cs) place = if c == quote then fault.BadCharacter place else fault.BadCharacter (place + byte_length (c ∷ []))
fault_at _ text place =
    if begins_with quote text then fault.UnclosedString place
    else (if begins_with slash text && begins_with star (drop 1 text) then fault.UnclosedComment place else fault.BadCharacter place)

-- a number that is too large, a literal with a bad insertion, or a literal that gives no value to its macro
abbrev pub IsRefused : Directives → Shape → List ℕ → ℕ → ScriptFault → Type 0
IsRefused s shape.Number x place f = (2147483647 < number_of x) × (f ≡ fault.NumberTooLarge place)
IsRefused s shape.Literal x place f = (inner : List ℕ) × (x ≡ quote ∷ (inner ++ quote ∷ []))
    × (FirstWrong s.escapes inner (place + 1) f
    ⊎ ((v : List ℕ) × Means s.escapes inner v × (value_for s.defining v ≡ None) × (f ≡ fault.BadCode place)))
IsRefused s _ x place f = ⊥

-- the text does not begin with a piece, and it is not empty or insert characters are expected; or the piece is refused
abbrev pub IsFault : Directives → List ℕ → ℕ → ScriptFault → Type 0
IsFault s text place f =
    ((text ≡ [] → s.wanted ≡ wanted.Inserts) × NoPiece (setting_of s) text × (f ≡ fault_at s.wanted text place))
    ⊎ ((k : Shape) × (x : List ℕ) × (rest : List ℕ) × (text ≡ x ++ rest) × IsPiece (setting_of s) k x rest × IsRefused s k x place f)

-- the first fault of a text: the pieces before it have no fault, and its position is the number of bytes before it
abbrev pub IsFirstFaultFrom : Directives → List ℕ → ScriptFault → Type 0
IsFirstFaultFrom s text f = (before : List ℕ) × (rest : List ℕ) × (ps : List Piece) × (t : Directives) × (text ≡ before ++ rest)
    × AreCut s text ps t rest × IsFault t rest (byte_length before) f

abbrev pub IsFirstFault : List ℕ → ScriptFault → Type 0
IsFirstFault text f = IsFirstFaultFrom start text f

-- ---- one token after another

-- the text of the token is x, and it starts after `before`
abbrev pub IsAt : List ℕ → List ℕ → Token → Type 0
IsAt before x t = (t.text.now ≡ encode_utf8_all x) × (t.start ≡ byte_length before) × (t.end ≡ byte_length before + byte_length x)

-- there is a fault after white space and comments
abbrev pub Stops : List ℕ → Directives → List ℕ → ScriptFault → Type 0
Stops text s from f =
    (before : List ℕ) × (at : List ℕ) × (text ≡ before ++ at) × AfterGaps (setting_of s) from at × IsFault s at (byte_length before) f

-- The token comes after white space and comments: its text is the longest piece there, has the token's meaning, and is
-- at the token's position.
pub record IsToken (text : List ℕ) (s : Directives) (from rest : List ℕ) (token : Token) : Type 0 where
  pub before : List ℕ
  pub own : List ℕ
  pub kind : Shape
  pub stands : text ≡ before ++ (own ++ rest)
  pub gaps : AfterGaps (setting_of s) from (own ++ rest)
  pub piece : IsPiece (setting_of s) kind own rest
  pub told : IsLexeme s kind own (lexeme_of token)
  pub place : IsAt before own token
  pub fitting : SaysFitting token

-- What comes from `from` on: white space and comments, then the end or a token. `rest` is the text after it.
abbrev pub Comes : List ℕ → Directives → List ℕ → List ℕ → Option Token → Type 0
Comes text s from rest None = AfterGaps (setting_of s) from [] × MayEnd s × (rest ≡ [])
Comes text s from rest (Some token) = IsToken text s from rest token

-- The next token, or the end, or a fault. t is the state after it.
abbrev pub Advances : List ℕ → Directives → List ℕ → Directives → List ℕ → Result (Option Token) ScriptFault → Type 0
Advances text s from t rest (Ok None) = Comes text s from rest None × (t ≡ s)
Advances text s from t rest (Ok (Some token)) = Comes text s from rest (Some token) × HasValue s (lexeme_of token) × (t ≡ after s (lexeme_of token))
Advances text s from t rest (Err f) = (rest ≡ from) × (t ≡ s) × ((f ≡ fault.OutOfMemory) ⊎ Stops text s from f)

-- the text that is being read, the rest of it, the state, and the fault that was returned
pub record Reading : Type 0 where
  pub text : List ℕ
  pub rest : List ℕ
  pub state : Directives
  pub fault : Option ScriptFault

-- at the start of a text
abbrev pub beginning : Directives → List ℕ → Reading
beginning s text = record { text = text; rest = text; state = s; fault = None }

-- what comes next if no fault was returned so far: a fault is kept, but `OutOfMemory` is not
abbrev pub IsFresh : Reading → Reading → Result (Option Token) ScriptFault → Type 0
IsFresh r t (Ok o) = Advances r.text r.state r.rest t.state t.rest (Ok o) × (t.fault ≡ None)
IsFresh r t (Err f) =
    (t.rest ≡ r.rest) × (t.state ≡ r.state) × (((f ≡ fault.OutOfMemory) × (t.fault ≡ None)) ⊎ (Stops r.text r.state r.rest f × (t.fault ≡ Some f)))

abbrev pub IsAnswer : Option ScriptFault → Reading → Reading → Result (Option Token) ScriptFault → Type 0
IsAnswer None r t result = IsFresh r t result
IsAnswer (Some f) r t result = (result ≡ Err f) × (t ≡ r)

-- What the next call returns: the fault that was returned before, with nothing changed; or what comes next in the text.
abbrev pub IsNext : Reading → Reading → Result (Option Token) ScriptFault → Type 0
IsNext r t result = IsAnswer r.fault r t result
