use Rattle.std.proofs.Common.{◌≡◌, ◌||◌, ◌&&◌, length}
use Rattle.sbl_history.specs.LineEnds.{all_crlf, has_feed}
use Rattle.sbl_history.specs.LineEnds as spec
use Rattle.sbl_history.proofs.line_ends.has_crlf.Given as goal

abbrev pub invariant-loop-rest : goal.invariant-loop-rest
invariant-loop-rest l = spec.has_crlf l.fn.text ≡ ((l.has_feed || has_feed l.rest) && all_crlf l.before l.rest)

abbrev pub decreases-loop-rest : goal.decreases-loop-rest
decreases-loop-rest l = length l.rest
