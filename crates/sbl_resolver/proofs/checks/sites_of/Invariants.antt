use Rattle.std.proofs.Common.{◌≡◌, ℕ, List, drop}
use Rattle.std.specs.Option.{option_or}
use Rattle.sbl_resolver.specs.Checks.{definition_of}
use Rattle.sbl_resolver.specs.MetNames.{at_name}
use Rattle.sbl_resolver.specs.OccurrenceView.{view_occurrences}
use Rattle.sbl_resolver.proofs.checks.sites_of.Given as goal

abbrev pub invariant-loop-occurrence : goal.invariant-loop-occurrence
invariant-loop-occurrence l = (n : List ℕ) → option_or (at_name l.sites n) (definition_of n (view_occurrences (drop l.occurrence-index l.occurrences))) ≡ definition_of n (view_occurrences l.occurrences)
