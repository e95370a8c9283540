use Rattle.std.proofs.Common.{◌≡◌, drop}
use Rattle.sbl_resolver.specs.Checks.{is_followed}
use Rattle.sbl_resolver.specs.OccurrenceView.{view_occurrences}
use Rattle.sbl_resolver.proofs.checks.is_followed.Given as goal

abbrev pub invariant-loop-occurrence : goal.invariant-loop-occurrence
invariant-loop-occurrence l = is_followed l.mode (view_occurrences (drop l.occurrence-index l.occurrences)) ≡ is_followed l.mode (view_occurrences l.occurrences)
