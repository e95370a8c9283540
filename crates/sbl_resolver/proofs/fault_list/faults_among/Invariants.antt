use Rattle.std.proofs.Common.{◌≡◌, [], ◌++◌, drop, take, length}
use Rattle.sbl_resolver.specs.MetNames.{HasMet}
use Rattle.sbl_resolver.specs.AllFaults.{faults_after}
use Rattle.sbl_resolver.specs.Subjects.{subjects_of}
use Rattle.sbl_resolver.specs.OccurrenceView.{view_occurrences}
use Rattle.sbl_resolver.proofs.fault_list.faults_among.Given as goal

abbrev pub invariant-loop-index : goal.invariant-loop-index
invariant-loop-index l = record {
  met : HasMet l.met (view_occurrences (take l.index l.occurrences));
  number : l.number ≡ length (subjects_of (view_occurrences (take l.index l.occurrences)));
  faults : l.faults.items ++ faults_after (view_occurrences l.occurrences) (view_occurrences (take l.index l.occurrences)) (view_occurrences (drop l.index l.occurrences)) ≡ faults_after (view_occurrences l.occurrences) [] (view_occurrences l.occurrences);
}
