use Rattle.sbl_text.proofs.Unique.{next_is_first, none_is_last}
use Rattle.sbl_text.proofs.laws.nexts_are_tokens.Goals as goal

pub returns-clause-next : goal.returns-clause-next
returns-clause-next c = next_is_first

pub returns-clause-none : goal.returns-clause-none
returns-clause-none c = none_is_last
