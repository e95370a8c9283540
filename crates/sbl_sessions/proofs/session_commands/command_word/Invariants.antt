use Rattle.sbl_sessions.proofs.CommandFacts.{NoSpace}
use Rattle.sbl_sessions.proofs.session_commands.command_word.Given as goal

abbrev pub invariant-loop-i : goal.invariant-loop-i
invariant-loop-i l = NoSpace l.line l.i
