-- How a lexeme is written, which lexemes can be written, and texts whose tokens are separated by white space.
use Rattle.std.specs.Prelude.{◌≡◌, ℕ, Bool, true, List, [], ◌∷◌, ◌++◌, map, encode_utf8_all}
use Rattle.std.specs.List.{list_all}
use Rattle.std.specs.Str.{chars, IsUtf8}
use Rattle.std.specs.Fmt.{decimal}
use Rattle.sbl_text.specs.declared.pieces.Shape.{Shape}
use Rattle.sbl_text.specs.Classes.{is_white, quote}
use Rattle.sbl_token.specs.Words.{word_text}
use Rattle.sbl_token.specs.Signs.{sign_text}
use Rattle.sbl_text.specs.Pieces.{Has, may_come}
use Rattle.sbl_token.specs.Lexemes.{Lexeme, word, sign, name, number, literal, inserts, macro_name}
use Rattle.sbl_text.specs.Directives.{Directives, after}
use Rattle.sbl_text.specs.Tokens.{Says}

-- The text of a lexeme, as UTF-8 bytes: a number in decimal, a literal as its spelling in quotes.
abbrev pub lexeme_text : Lexeme → List ℕ
lexeme_text (word w) = word_text w
lexeme_text (sign g) = sign_text g
lexeme_text (name n) = n
lexeme_text (number n) = decimal n
lexeme_text (literal spelling v) = quote ∷ (spelling ++ quote ∷ [])
lexeme_text (inserts a b) = encode_utf8_all (a ∷ b ∷ [])
lexeme_text (macro_name n) = n

-- the text has this shape, may come in this state, and reads as the lexeme
abbrev pub IsSaidBy : Directives → Lexeme → Shape → List ℕ → Type 0
IsSaidBy s l k text = IsUtf8 text × Has s.escapes.inserts k (chars text) × (may_come s.wanted k ≡ true) × Says s k (chars text) l

-- some text reads as the lexeme
abbrev pub IsSaid : Directives → Lexeme → Type 0
IsSaid s l = (k : Shape) × (text : List ℕ) × IsSaidBy s l k text

-- the state after these lexemes
abbrev pub after_all : Directives → List Lexeme → Directives
after_all s [] = s
after_all s (l ∷ ls) = after_all (after s l) ls

-- each lexeme can be written in the state after those before it
abbrev pub AreSaid : Directives → List Lexeme → Type 0
AreSaid s [] = Unit {0}
AreSaid s (l ∷ ls) = IsSaid s l × AreSaid (after s l) ls

-- a lexeme, and the white space character written after it
pub record SpacedToken : Type 0 where
  pub lexeme : Lexeme
  pub space : ℕ

abbrev pub lexemes_of : List SpacedToken → List Lexeme
lexemes_of ps = map (λ p. p.lexeme) ps

abbrev pub are_white : List SpacedToken → Bool
are_white ps = list_all (λ p. is_white p.space) ps

-- the text of all of them, as UTF-8 bytes
abbrev pub spaced_text : List SpacedToken → List ℕ
spaced_text [] = []
spaced_text (p ∷ ps) = lexeme_text p.lexeme ++ (encode_utf8_all (p.space ∷ []) ++ spaced_text ps)
