use Rattle.std.proofs.Common.{◌≡◌, ◌≤◌, length}
use Rattle.std.specs.Str.{chars}
use denote.Shadow.{shadow}
use denote.Text.{Utf8}
use Rattle.sbl_text_rows.specs.Gaps.{past_line}
use Rattle.sbl_text_rows.proofs.comments.past_line.Given as goal

abbrev pub invariant-loop-c : goal.invariant-loop-c
invariant-loop-c l = shadow (Utf8 l.text) × (past_line (chars l.text) ≡ past_line (chars l.initial.text)) × (length l.text ≤ length l.initial.text)

abbrev pub decreases-loop-c : goal.decreases-loop-c
decreases-loop-c l = length l.text
