use Rattle.sbl_command_line.proofs.command_line.file_arg.Goals as goal

pub returns-clause-rule : goal.returns-clause-rule
returns-clause-rule c = rw c.help.ensures c.new.ensures.rule

pub returns-clause-here : goal.returns-clause-here
returns-clause-here c = rw c.help.ensures c.new.ensures.optional.1
