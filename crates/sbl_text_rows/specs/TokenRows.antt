-- The rows of the tokens and comments of a text.
use Rattle.std.specs.Prelude.{◌≡◌, ◌⊎◌, ℕ, ◌+◌, List, [], ◌∷◌, ◌++◌, codes, decimal, encode_utf8_all, Option, Some, None}
use Rattle.std.specs.Str.{chars}
use Rattle.sbl_token.specs.Lexemes.{Lexeme, word, sign, name, number, literal, inserts, macro_name}
use Rattle.sbl_text.specs.declared.fault.ScriptFault.{ScriptFault}
use Rattle.sbl_text.specs.declared.pieces.Shape.{Shape}
use Rattle.sbl_text.specs.declared.pieces.Shape.TheVariants as shape
use Rattle.sbl_text.specs.Directives.{Directives, start}
use Rattle.sbl_text.specs.Literals.{byte_length}
use Rattle.sbl_text.specs.Tokens.{AreCut, IsFault, MayEnd, Piece}
use Rattle.sbl_text_rows.specs.Rows.{line_if}

-- ---- the row of a piece

abbrev pub kind_field : Lexeme → List ℕ
kind_field (word w) = codes "word"
kind_field (sign g) = codes "sign"
kind_field (name n) = codes "name"
kind_field (number n) = codes "number"
kind_field (literal spelling characters) = codes "literal"
kind_field (inserts a b) = codes "inserts"
kind_field (macro_name n) = codes "macro"

-- a token from one byte offset to another, as it is written
unfoldable pub token_row : ℕ → ℕ → List ℕ → Lexeme → List (List ℕ)
token_row from to text l = kind_field l ∷ decimal from ∷ decimal to ∷ text ∷ []

unfoldable pub comment_row : ℕ → ℕ → List (List ℕ)
comment_row from to = codes "comment" ∷ decimal from ∷ decimal to ∷ []

-- white space has no row
abbrev pub gap_row : ℕ → ℕ → Shape → Option (List (List ℕ))
gap_row from to shape.Blank = None
gap_row from to _ = Some (comment_row from to)

abbrev pub row_of : ℕ → ℕ → List ℕ → Shape → Option Lexeme → Option (List (List ℕ))
row_of from to text k (Some l) = Some (token_row from to text l)
row_of from to text k None = gap_row from to k

-- the lines of the rows of pieces, the first of which begins at this byte offset
abbrev pub lines_from : ℕ → List Piece → List ℕ
lines_from from [] = []
lines_from from (p ∷ ps) =
    line_if (row_of from (from + byte_length p.text) (encode_utf8_all p.text) p.shape p.lexeme) ++ lines_from (from + byte_length p.text) ps

-- ---- the pieces of a text

-- A text from this byte offset on, in this state of the lexer, has no more pieces: it is at its end, or at its first fault.
abbrev pub HasNoMore : Directives → List ℕ → ℕ → Type 0
HasNoMore s text place = ((text ≡ []) × MayEnd s) ⊎ ((f : ScriptFault) × IsFault s text place f)

-- the pieces of a text up to its end or its first fault
abbrev pub ArePieces : List ℕ → List Piece → Type 0
ArePieces text ps =
    (before : List ℕ) × (rest : List ℕ) × (s : Directives) × (text ≡ before ++ rest) × AreCut start text ps s rest
    × HasNoMore s rest (byte_length before)

-- the rows of the tokens and comments of a text, as UTF-8 bytes, up to its first fault
abbrev pub IsTokensText : List ℕ → List ℕ → Type 0
IsTokensText text report = (ps : List Piece) × ArePieces (chars text) ps × (report ≡ lines_from 0 ps)
