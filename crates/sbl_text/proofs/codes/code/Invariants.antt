use Rattle.std.proofs.Common.{◌≡◌, ◌≤◌, length}
use Rattle.sbl_text.specs.Codes.{value_in}
use Rattle.sbl_text.specs.inside.CodeParts.{write_scalar}
use Rattle.sbl_text.proofs.codes.code.Given as goal

abbrev pub invariant-loop-digits : goal.invariant-loop-digits
invariant-loop-digits l =
    (write_scalar l.base l.value l.digits ≡ write_scalar l.base 0 l.initial.digits)
    × (value_in l.base l.value l.digits ≡ value_in l.base 0 l.initial.digits)
    × (l.value ≤ 0x10FFFF)

abbrev pub decreases-loop-digits : goal.decreases-loop-digits
decreases-loop-digits l = length l.digits
