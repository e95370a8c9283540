use Rattle.std.proofs.Common.{◌≡◌, false, subst}
use Rattle.std.specs.Prelude.{MatchOption}
use Rattle.std.specs.Str.{chars}
use Rattle.sbl_text.specs.Pieces.{Setting, AfterGaps, NoPiece, is_gap}
use Rattle.sbl_text.specs.Scan.{Piece_at}
use Rattle.sbl_text.proofs.Nexts.{same_setting}
use Rattle.sbl_text.proofs.lexer.cut_after.Goals as goal

pub returns-clause-gaps : goal.returns-clause-gaps
returns-clause-gaps c =
    subst (λ (e : Setting). AfterGaps e (chars c.args.from.now) (chars c.past_gaps.result.0.now)) (same_setting c.args.state.now c.escapes.result.now c.inserts.result c.next_wanted.result c.inserts.ensures c.escapes.ensures c.next_wanted.ensures) c.past_gaps.ensures.gaps

pub returns-clause-next : goal.returns-clause-next
returns-clause-next c =
    subst (λ (e : Setting). MatchOption c.past_gaps.result.1 (NoPiece e (chars c.past_gaps.result.0.now)) (λ p. is_gap p.0 ≡ false × Piece_at e p.0 (chars c.past_gaps.result.0.now) (chars p.1.now)))
    (same_setting c.args.state.now c.escapes.result.now c.inserts.result c.next_wanted.result c.inserts.ensures c.escapes.ensures c.next_wanted.ensures) c.past_gaps.ensures.next
