use Rattle.sbl_machine.proofs.WhyLaw as why
use Rattle.sbl_machine.proofs.laws.events_change_nothing.Goals as goal

pub returns : goal.returns
returns c = why.events_change_nothing
