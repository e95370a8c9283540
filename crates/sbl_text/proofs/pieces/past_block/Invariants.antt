use Rattle.std.proofs.Common.{◌≡◌, ◌≤◌, drop, length, Some}
use Rattle.std.specs.Prelude.{◌&&◌, if◌then◌else◌}
use Rattle.std.specs.Str.{chars}
use denote.Shadow.{shadow}
use denote.Text.{Utf8}
use Rattle.sbl_text.specs.Classes.{begins_with, slash}
use Rattle.sbl_text.specs.Scan as spec
use Rattle.sbl_text.proofs.pieces.past_block.Given as goal

abbrev pub invariant-loop-c : goal.invariant-loop-c
invariant-loop-c l =
    shadow (Utf8 l.text)
    × ((if l.after_star && begins_with slash (chars l.text) then Some (drop 1 (chars l.text)) else spec.past_block (chars l.text)) ≡ spec.past_block (chars l.initial.text))
    × (length l.text ≤ length l.initial.text)

abbrev pub decreases-loop-c : goal.decreases-loop-c
decreases-loop-c l = length l.text
