use Rattle.sbl_command_line.proofs.command_line.has_flag.Goals as goal

pub returns : goal.returns
returns c = record { given = c.get_flag.ensures.value; missing = c.get_flag.ensures.other; none = c.get_flag.ensures.none }
