use Rattle.sbl_sessions.proofs.CommandFacts.{not_text, target_of_bytes}
use Rattle.sbl_sessions.proofs.session_commands.keep_line.Goals as goal

pub returns-in_default : goal.returns-in_default
returns-in_default c = target_of_bytes c.args.line.now (not_text c.args.line.now c.in_default.ensures.cases.0)
