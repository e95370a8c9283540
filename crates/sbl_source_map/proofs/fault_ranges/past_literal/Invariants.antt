use Rattle.std.proofs.Common.{◌≡◌, ◌≤◌, length, false}
use Rattle.std.specs.Str.{chars}
use denote.Shadow.{shadow}
use denote.Text.{Utf8}
use Rattle.sbl_source_map.specs.FaultRanges as spec
use Rattle.sbl_source_map.proofs.fault_ranges.past_literal.Given as goal

abbrev pub invariant-loop-c : goal.invariant-loop-c
invariant-loop-c l =
    shadow (Utf8 l.text)
    × (spec.past_literal l.inserts l.inside (chars l.text) ≡ spec.past_literal l.inserts false (chars l.initial.text))
    × (length l.text ≤ length l.initial.text)

abbrev pub decreases-loop-c : goal.decreases-loop-c
decreases-loop-c l = length l.text
