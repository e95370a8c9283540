use Rattle.sbl_machine.proofs.StepsLaw.{refused_for_steps, used_suffice, used_touch}
use Rattle.sbl_machine.proofs.laws.used_steps_suffice.Goals as goal

pub returns-clause-refused : goal.returns-clause-refused
returns-clause-refused c = refused_for_steps

pub returns-clause-suffice : goal.returns-clause-suffice
returns-clause-suffice c = used_suffice

pub returns-clause-touch : goal.returns-clause-touch
returns-clause-touch c = used_touch
