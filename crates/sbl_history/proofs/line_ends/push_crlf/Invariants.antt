use Rattle.std.proofs.Common.{◌≡◌, ◌++◌, length}
use Rattle.sbl_history.specs.LineEnds.{with_crlf, with_crlf_after}
use Rattle.sbl_history.proofs.line_ends.push_crlf.Given as goal

abbrev pub invariant-loop-rest : goal.invariant-loop-rest
invariant-loop-rest l = l.to.items ++ with_crlf_after l.before l.rest ≡ l.fn.to.items ++ with_crlf l.fn.text

abbrev pub decreases-loop-rest : goal.decreases-loop-rest
decreases-loop-rest l = length l.rest
