use Rattle.std.proofs.Common.{◌≤◌}
use Rattle.sbl_sessions.specs.inside.SessionParts.{max_number}
use Rattle.sbl_sessions.proofs.NumberFacts.{Reads}
use Rattle.sbl_sessions.proofs.session_commands.number_in.Given as goal

abbrev pub invariant-loop-i : goal.invariant-loop-i
invariant-loop-i l = Reads l.digits l.i l.number × (l.number ≤ max_number)
