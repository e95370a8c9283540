-- White space and comments, one after another.
use Rattle.std.specs.Prelude.{◌≡◌, ℕ, ◌+◌, Bool, true, false, not, ◌==◌, if◌then◌else◌, List, [], ◌∷◌, ◌++◌}
use Rattle.std.specs.Prelude.{Option, Some, None, option_map}
use Rattle.std.specs.Str.{chars}
use Rattle.sbl_text.specs.Classes.{is_white, line_feed, slash, star}
use Rattle.sbl_text.specs.Literals.{byte_length}
use Rattle.sbl_text.specs.declared.escapes.Inserts.{Inserts}
use Rattle.sbl_text.specs.declared.pieces.Expectation.TheVariants as wanted
use Rattle.sbl_text.specs.Pieces.{AreGaps, Gap}
use Rattle.sbl_text.specs.inside.PieceParts.{setting}
use Rattle.sbl_text.specs.Scan.{past_block}
use Rattle.sbl_text.specs.Skip.{past}
use Rattle.sbl_text_rows.specs.Rows.{line_if}
use Rattle.sbl_text_rows.specs.TokenRows.{gap_row}
use Rattle.sbl_text_rows.specs.declared.comments.GapEnd.{GapEnd}

-- the text from its first line feed on
abbrev pub past_line : List ℕ → List ℕ
past_line text = past (λ c. not (c == line_feed)) text

-- the text after a comment, given the text after its first slash
abbrev pub past_comment : List ℕ → Option (List ℕ)
past_comment [] = None
past_comment (c ∷ cs) = if c == slash then Some (past_line cs) else (if c == star then past_block cs else None)

-- whether a text begins with a comment or with white space, and the text after it
abbrev pub cut_gap : List ℕ → Option (Bool × List ℕ)
cut_gap [] = None
cut_gap (c ∷ cs) = if is_white c then Some (false, cs) else (if c == slash then option_map (λ r. (true, r)) (past_comment cs) else None)

abbrev pub view_gap : GapEnd → Bool × List ℕ
view_gap g = (g.is_comment, chars g.rest.now)

-- the lines of the comments of gaps, the first of which begins at this byte offset
abbrev pub gap_lines : ℕ → List Gap → List ℕ
gap_lines from [] = []
gap_lines from (g ∷ gs) = line_if (gap_row from (from + byte_length g.text) g.shape) ++ gap_lines (from + byte_length g.text) gs

-- the lines of the comments that the rest of a text begins with were appended
abbrev pub AddsGaps : List ℕ → List ℕ → List ℕ → List ℕ → Type 0
AddsGaps text rest old new =
    (i : Option Inserts) (x : List ℕ) (gs : List Gap) (at : List ℕ) →
    text ≡ x ++ rest → AreGaps (setting i wanted.Token) rest gs at → cut_gap at ≡ None → new ≡ old ++ gap_lines (byte_length x) gs
