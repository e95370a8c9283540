use Rattle.std.proofs.Common.{◌≡◌, ℕ, List}
use Rattle.std.specs.Option.{option_or}
use Rattle.sbl_rows.specs.KnownOutcomes.{known_outcome}
use Rattle.sbl_rows.specs.ChangedRows.{outcome_in}
use Rattle.sbl_rows.specs.Rows.{view_rows}
use Rattle.sbl_rows.proofs.outcomes.outcomes_of.Given as goal

-- what the rows still to come say of a word counts first, then the map
abbrev pub invariant-loop-row : goal.invariant-loop-row
invariant-loop-row l = (word : List ℕ) → option_or (outcome_in (view_rows l.row-iterator.iter.rest.now) word) (known_outcome l.outcomes word) ≡ outcome_in (view_rows l.rows) word
