use Rattle.std.proofs.Common.{◌≡◌, [], drop, take, length}
use Rattle.sbl_resolver.specs.MetNames.{HasMet}
use Rattle.sbl_resolver.specs.FirstFault.{first_from}
use Rattle.sbl_resolver.specs.Subjects.{subjects_of}
use Rattle.sbl_resolver.specs.OccurrenceView.{view_occurrences}
use Rattle.sbl_resolver.proofs.checks.fault_among.Given as goal

abbrev pub invariant-loop-index : goal.invariant-loop-index
invariant-loop-index l = record {
  met : HasMet l.met (view_occurrences (take l.index l.occurrences));
  number : l.number ≡ length (subjects_of (view_occurrences (take l.index l.occurrences)));
  none : first_from (view_occurrences l.occurrences) (view_occurrences (take l.index l.occurrences)) (view_occurrences (drop l.index l.occurrences)) ≡ first_from (view_occurrences l.occurrences) [] (view_occurrences l.occurrences);
}
