use Rattle.std.proofs.Common.{◌≡◌, ◌≤◌, length}
use Rattle.std.specs.Str.{chars}
use denote.Shadow.{shadow}
use denote.Text.{Utf8}
use Rattle.sbl_text.specs.Tokens as spec
use Rattle.sbl_text.specs.inside.TokenParts as parts
use Rattle.sbl_text.proofs.meanings.number.Given as goal

abbrev pub invariant-loop-c : goal.invariant-loop-c
invariant-loop-c l =
    shadow (Utf8 l.text)
    × (parts.digits_value l.value (chars l.text) ≡ spec.number_of (chars l.initial.text))
    × (l.value ≤ 2147483647)

abbrev pub decreases-loop-c : goal.decreases-loop-c
decreases-loop-c l = length l.text
