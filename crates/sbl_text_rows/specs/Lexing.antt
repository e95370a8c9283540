-- Tokens one after another.
use Rattle.std.specs.Prelude.{◌≡◌, ℕ, ◌++◌, Bool, true, false, List, [], None, Some, Ok}
use Rattle.sbl_io.specs.Records.{record_line}
use Rattle.sbl_token.specs.declared.token.Token.{Token}
use Rattle.sbl_token.specs.Lexemes.{lexeme_of}
use Rattle.sbl_text.specs.declared.pieces.Expectation.TheVariants as wanted
use Rattle.sbl_text.specs.Directives.{Directives, after, setting_of}
use Rattle.sbl_text.specs.Literals.{byte_length}
use Rattle.sbl_text.specs.Pieces.{AfterGaps, AreGaps, Gap}
use Rattle.sbl_text.specs.Tokens.{Advances, Reading}
use Rattle.sbl_text_rows.specs.Gaps.{cut_gap, gap_lines}
use Rattle.sbl_text_rows.specs.TokenRows.{HasNoMore, comment_row}

-- the line of a comment from one byte offset to another; white space has none
abbrev pub comment_line : Bool → ℕ → ℕ → List ℕ
comment_line true from to = record_line (comment_row from to)
comment_line false from to = []

-- the next token, without a fault
abbrev pub TakesToken : Reading → Reading → Token → Type 0
TakesToken r t token = Advances r.text r.state r.rest t.state t.rest (Ok (Some token)) × (t.fault ≡ None)

-- after white space and comments there is the end of the text or a fault
abbrev pub EndsAfter : Reading → Type 0
EndsAfter r =
    (before : List ℕ) × (at : List ℕ) × (r.text ≡ before ++ at) × AfterGaps (setting_of r.state) r.rest at × HasNoMore r.state at (byte_length before)

-- The line of a gap was appended, of which the text from its beginning and the text after it are known.
abbrev pub AddsGap : List ℕ → List ℕ → Bool → List ℕ → List ℕ → List ℕ → Type 0
AddsGap text rest is_comment following old new =
    (x y : List ℕ) → text ≡ x ++ rest → text ≡ y ++ following → new ≡ old ++ comment_line is_comment (byte_length x) (byte_length y)

-- the lines of the comments after a token were appended
abbrev pub AddsAfter : List ℕ → Token → List ℕ → List ℕ → Type 0
AddsAfter text token old new =
    (s : Directives) (x rest : List ℕ) (gs : List Gap) (at : List ℕ) →
    text ≡ x ++ rest → token.end ≡ byte_length x → AreGaps (setting_of (after s (lexeme_of token))) rest gs at
    → ((after s (lexeme_of token)).wanted ≡ wanted.Token → cut_gap at ≡ None) → new ≡ old ++ gap_lines (byte_length x) gs
