use Rattle.std.proofs.Common.{inl, inr}
use Rattle.sbl_history.proofs.noted.show_first.Goals as goal

pub returns-then-is_shown-clause-covered : goal.returns-then-is_shown-clause-covered
returns-then-is_shown-clause-covered c = inr (c.is_shown.ensures c.if-is_shown.true)

pub returns-clause-covered : goal.returns-clause-covered
returns-clause-covered c = inl c.insert.ensures.own
