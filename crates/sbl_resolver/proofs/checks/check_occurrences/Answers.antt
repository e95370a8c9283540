use Rattle.std.proofs.Common.{sym, ap, ◌∙◌, ◌≡◌, inr, Some}
use Rattle.sbl_resolver.specs.OccurrenceView.{view_occurrences}
use Rattle.sbl_resolver.proofs.Numbered.{has_none, has_first}
use Rattle.sbl_resolver.proofs.checks.check_occurrences.Goals as goal

pub returns-in-None-clause-fault : goal.returns-in-None-clause-fault
returns-in-None-clause-fault c = has_none (view_occurrences c.args.occurrences.now) c.in_ok-fault_among.field-0 c.in_ok-fault_among.ensures.fault c.in-None.is

pub returns-in-Some-clause-fault : goal.returns-in-Some-clause-fault
returns-in-Some-clause-fault c =
    inr (has_first (view_occurrences c.args.occurrences.now) c.in_ok-fault_among.field-0 (c.in-Some.field-0-0, c.in-Some.fault) c.in_ok-fault_among.ensures.fault c.in-Some.is)
