use Rattle.std.proofs.Common.{◌≡◌, length, false}
use Rattle.sbl_text.specs.Literals.{is_closed}
use Rattle.sbl_text.proofs.literals.is_closed.Given as goal

abbrev pub invariant-loop-chars : goal.invariant-loop-chars
invariant-loop-chars l = is_closed l.inserts l.inside l.chars ≡ is_closed l.inserts false l.initial.chars

abbrev pub decreases-loop-chars : goal.decreases-loop-chars
decreases-loop-chars l = length l.chars
