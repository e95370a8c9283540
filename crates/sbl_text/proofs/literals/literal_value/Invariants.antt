use Rattle.std.proofs.Common.{length}
use Rattle.sbl_text.proofs.Parted.{Read}
use Rattle.sbl_text.proofs.literals.literal_value.Given as goal

abbrev pub invariant-loop-rest : goal.invariant-loop-rest
invariant-loop-rest l = Read l.escapes l.spelling l.place l.rest l.value.items l.at

abbrev pub decreases-loop-rest : goal.decreases-loop-rest
decreases-loop-rest l = length l.rest
