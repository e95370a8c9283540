use Rattle.sbl_sessions.proofs.CommandFacts.{NoSpace}
use Rattle.sbl_work.proofs.requests.split.Given as goal

abbrev pub invariant-loop-i : goal.invariant-loop-i
invariant-loop-i l = NoSpace l.line l.i
