use Rattle.std.proofs.Common.{◌≡◌, ◌++◌, ℕ, List, None, Option, length}
use Rattle.std.specs.Str.{chars}
use denote.Shadow.{shadow}
use denote.Text.{Utf8}
use Rattle.sbl_text.specs.declared.escapes.Inserts.{Inserts}
use Rattle.sbl_text.specs.declared.pieces.Expectation.TheVariants as wanted
use Rattle.sbl_text.specs.Literals.{byte_length}
use Rattle.sbl_text.specs.Pieces.{AreGaps, Gap}
use Rattle.sbl_text.specs.inside.PieceParts.{setting}
use Rattle.sbl_text_rows.specs.Gaps.{cut_gap, gap_lines}
use Rattle.sbl_text_rows.proofs.GapFacts.{Left}
use Rattle.sbl_text_rows.proofs.token_rows.push_comments.Given as goal

abbrev pub invariant-loop-gap : goal.invariant-loop-gap
invariant-loop-gap l =
    shadow (Utf8 l.rest) × ((x : List ℕ) × (chars l.text ≡ x ++ chars l.rest))
    × ((i : Option Inserts) (x : List ℕ) (gs : List Gap) (at : List ℕ) → chars l.text ≡ x ++ chars l.initial.rest → AreGaps (setting i wanted.Token) (chars l.initial.rest) gs at → cut_gap at ≡ None
    → Left i (chars l.text) (chars l.rest) at l.out.items (l.initial.out.items ++ gap_lines (byte_length x) gs))

abbrev pub decreases-loop-gap : goal.decreases-loop-gap
decreases-loop-gap l = length l.rest
