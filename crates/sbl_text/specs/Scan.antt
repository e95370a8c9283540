-- Finds the end of a piece, starting from its first character. Internal: only functions inside the crate use these
-- definitions in their contracts.
use Rattle.std.specs.Prelude.{◌≡◌, ◌++◌, ℕ, Bool, true, false, not, ◌&&◌, ◌||◌, ◌==◌, if◌then◌else◌, List, []}
use Rattle.std.specs.Prelude.{◌∷◌, drop, length, ◌<◌, Option, Some, None, option_map, MatchOption}
use Rattle.std.specs.Borrow.{Bor}
use Rattle.std.specs.Str.{chars}
use Rattle.std.specs.Char.{is_ascii_alphabetic, is_ascii_digit}
use Rattle.sbl_text.specs.declared.pieces.Shape.{Shape}
use Rattle.sbl_text.specs.declared.pieces.Shape.TheVariants as shape
use Rattle.sbl_text.specs.declared.pieces.Expectation.{Expectation}
use Rattle.sbl_text.specs.declared.pieces.Expectation.TheVariants as wanted
use Rattle.sbl_text.specs.declared.pieces.Start.{Start}
use Rattle.sbl_text.specs.declared.pieces.Start.TheVariants as start
use Rattle.sbl_text.specs.declared.escapes.Inserts.{Inserts}
use Rattle.sbl_text.specs.Classes.{is_white, is_word, line_feed, quote, slash, star, begins_with}
use Rattle.sbl_text.specs.Skip.{past}
use Rattle.sbl_token.specs.SignCuts.{sign_prefix}
use Rattle.sbl_text.specs.Escapes.{opens, closes}
use Rattle.sbl_text.specs.Pieces.{Setting, IsPiece, NoPiece, is_gap}

abbrev pub start_of : ℕ → Start
start_of c =
    if is_white c then start.White else (if is_ascii_alphabetic c then start.Letter else (if is_ascii_digit c then start.Digit
    else (if c == quote then start.Quote else (if c == slash then start.Slash else start.Other))))

-- the text after the quote that ends the literal
abbrev pub past_literal : Option Inserts → Bool → List ℕ → Option (List ℕ)
past_literal e inside [] = None
past_literal e true (c ∷ cs) = past_literal e (not (closes e c)) cs
past_literal e false (c ∷ cs) =
    if c == quote then Some cs else (if c == line_feed then None else past_literal e (opens e c) cs)

-- the text after the `*/`
abbrev pub past_block : List ℕ → Option (List ℕ)
past_block [] = None
past_block (c ∷ cs) = if c == star && begins_with slash cs then Some (drop 1 cs) else past_block cs

-- the text contains `*/`
abbrev pub has_end : List ℕ → Bool
has_end [] = false
has_end (c ∷ cs) = (c == star && begins_with slash cs) || has_end cs

-- the shape of a piece, and the text after it
abbrev pub FirstPiece : Type 0
FirstPiece = Option (Shape × List ℕ)

abbrev pub cut_as : Shape → Option (List ℕ) → FirstPiece
cut_as k rest = option_map (λ r. (k, r)) rest

abbrev pub sign_cut : List ℕ → FirstPiece
sign_cut text = option_map (λ p. (shape.Sign, p.1)) (sign_prefix text)

-- the first piece of a text that begins with a slash; the second argument is the text after the slash
abbrev pub slash_cut : List ℕ → List ℕ → FirstPiece
slash_cut text [] = sign_cut text
slash_cut text (c ∷ cs) =
    if c == slash then Some (shape.LineComment, past (λ d. not (d == line_feed)) cs)
    else (if c == star then cut_as shape.BlockComment (past_block cs) else sign_cut text)

abbrev pub cut_at : Option Inserts → Start → ℕ → List ℕ → FirstPiece
cut_at e start.White c cs = Some (shape.Blank, cs)
cut_at e start.Letter c cs = Some (shape.Word, past is_word cs)
cut_at e start.Digit c cs = Some (shape.Number, past is_ascii_digit cs)
cut_at e start.Quote c cs = cut_as shape.Literal (past_literal e false cs)
cut_at e start.Slash c cs = slash_cut (c ∷ cs) cs
cut_at e start.Other c cs = sign_cut (c ∷ cs)

unfoldable pub cut : Option Inserts → List ℕ → FirstPiece
cut e [] = None
cut e (c ∷ cs) = cut_at e (start_of c) c cs

-- two characters that are not white space, the first not a quote
abbrev pub pair_from : ℕ → List ℕ → FirstPiece
pair_from a [] = None
pair_from a (b ∷ cs) = if a == quote || is_white b then None else Some (shape.Inserts, cs)

unfoldable pub pair_cut : List ℕ → FirstPiece
pair_cut [] = None
pair_cut (c ∷ cs) = if is_white c then Some (shape.Blank, cs) else pair_from c cs

unfoldable pub name_cut : List ℕ → FirstPiece
name_cut [] = None
name_cut (c ∷ cs) = if is_white c then Some (shape.Blank, cs) else Some (shape.MacroName, past (λ d. not (is_white d)) cs)

abbrev pub cut_in : Option Inserts → Expectation → List ℕ → FirstPiece
cut_in e wanted.Token text = cut e text
cut_in e wanted.Inserts text = pair_cut text
cut_in e wanted.MacroName text = name_cut text

-- the cut of a text of these bytes, which leaves less of it
abbrev pub IsCut : List ℕ → FirstPiece → Option (Shape × Bor (List ℕ)) → Type 0
IsCut bytes o result = MatchOption result (o ≡ None) (λ p. (o ≡ Some (p.0, chars p.1.now)) × (length p.1.now < length bytes))

-- the result of cutting the text is its longest first piece
abbrev pub IsCutFrom : Setting → List ℕ → Option (Shape × List ℕ) → Type 0
IsCutFrom e text None = NoPiece e text
IsCutFrom e text (Some p) = (x : List ℕ) × (text ≡ x ++ p.1) × IsPiece e p.0 x p.1

-- the text begins with a piece, the longest there, and the rest follows
abbrev pub Piece_at : Setting → Shape → List ℕ → List ℕ → Type 0
Piece_at e k text rest = (x : List ℕ) × (text ≡ x ++ rest) × IsPiece e k x rest

-- the same, and the piece is a token
abbrev pub Token_at : Setting → Shape → List ℕ → List ℕ → Type 0
Token_at e k text rest = is_gap k ≡ false × Piece_at e k text rest
