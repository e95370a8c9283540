use Rattle.std.proofs.Common.{ap, Some}
use Rattle.clap.specs.Words.{Rule}
use Rattle.clap.specs.declared.builder.action.ArgAction.TheVariants.{SetTrue}
use Rattle.sbl_command_line.proofs.command_line.flag_arg.Goals as goal

pub returns-clause-rule : goal.returns-clause-rule
returns-clause-rule c =
    rw c.help.ensures (rw c.action.ensures (rw c.long.ensures
    (ap (λ (r : Rule). record r { long = Some c.args.name.now; action = Some SetTrue }) c.new.ensures.rule)))

pub returns-clause-here : goal.returns-clause-here
returns-clause-here c = rw c.help.ensures (rw c.action.ensures (rw c.long.ensures c.new.ensures.optional.1))
