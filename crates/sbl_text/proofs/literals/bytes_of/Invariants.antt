use Rattle.std.proofs.Common.{◌≡◌, ◌+◌, length}
use Rattle.sbl_text.specs.Literals.{byte_length}
use Rattle.sbl_text.proofs.literals.bytes_of.Given as goal

abbrev pub invariant-loop-chars : goal.invariant-loop-chars
invariant-loop-chars l = l.total + byte_length l.chars ≡ byte_length l.initial.chars

abbrev pub decreases-loop-chars : goal.decreases-loop-chars
decreases-loop-chars l = length l.chars
