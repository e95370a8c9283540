use Rattle.std.proofs.Common.{ap, Some}
use Rattle.clap.specs.Words.{Rule}
use Rattle.sbl_command_line.proofs.command_line.value_arg.Goals as goal

pub returns-clause-rule : goal.returns-clause-rule
returns-clause-rule c =
    rw c.help.ensures (rw c.value_name.ensures (rw c.long-arg.ensures
    (ap (λ (r : Rule). record r { long = Some c.args.name.now; value_names = 1 }) c.new.ensures.rule)))

pub returns-clause-here : goal.returns-clause-here
returns-clause-here c = rw c.help.ensures (rw c.value_name.ensures (rw c.long-arg.ensures c.new.ensures.optional.1))
