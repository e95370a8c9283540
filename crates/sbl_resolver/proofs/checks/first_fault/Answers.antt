use Rattle.std.proofs.Common.{ap, ◌∙◌}
use Rattle.sbl_ast.specs.View.{view_items}
use Rattle.sbl_resolver.specs.Occurrences.{occurrences_of}
use Rattle.sbl_resolver.specs.OccurrenceView.{view_occurrences}
use Rattle.sbl_resolver.proofs.Numbered.{first_in}
use Rattle.sbl_resolver.proofs.checks.first_fault.Goals as goal

pub returns : goal.returns
returns c = first_in c.fault_among.result (view_occurrences c.deref-2.result.now) (occurrences_of (view_items c.args.items.now)) (ap view_occurrences c.deref-2.ensures.value ∙ c.in_ok-occurrences.ensures) c.fault_among.ensures.fault
