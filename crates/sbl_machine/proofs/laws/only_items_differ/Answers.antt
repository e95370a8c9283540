use Rattle.sbl_machine.proofs.OnlyItems as only
use Rattle.sbl_machine.proofs.laws.only_items_differ.Goals as goal

pub returns-clause-only : goal.returns-clause-only
returns-clause-only c = only.only_items_differ

pub returns-clause-more : goal.returns-clause-more
returns-clause-more c = only.more_differs

pub returns-clause-alike : goal.returns-clause-alike
returns-clause-alike c = only.alike_differ_nowhere
