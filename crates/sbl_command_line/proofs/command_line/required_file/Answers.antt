use Rattle.std.proofs.Common.{ap, true}
use Rattle.clap.specs.Words.{Rule}
use Rattle.sbl_command_line.proofs.command_line.required_file.Goals as goal

pub returns-clause-rule : goal.returns-clause-rule
returns-clause-rule c = rw c.help.ensures (rw c.required.ensures (ap (λ (r : Rule). record r { required = true }) c.new.ensures.rule))

pub returns-clause-here : goal.returns-clause-here
returns-clause-here c = rw c.help.ensures (rw c.required.ensures c.new.ensures.optional.1)
