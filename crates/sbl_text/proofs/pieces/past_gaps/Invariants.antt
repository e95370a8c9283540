use Rattle.std.proofs.Common.{length}
use Rattle.std.specs.Str.{chars}
use denote.Shadow.{shadow}
use denote.Text.{Utf8}
use Rattle.sbl_text.specs.Pieces as spec
use Rattle.sbl_text.specs.inside.PieceParts as parts
use Rattle.sbl_text.proofs.pieces.past_gaps.Given as goal

abbrev pub invariant-loop-shape : goal.invariant-loop-shape
invariant-loop-shape l =
    shadow (Utf8 l.text) × spec.AfterGaps (parts.setting l.inserts l.wanted) (chars l.initial.text) (chars l.text)

abbrev pub decreases-loop-shape : goal.decreases-loop-shape
decreases-loop-shape l = length l.text
