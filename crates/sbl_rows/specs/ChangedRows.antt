-- The words whose outcome is another one in a second list of rows.
use Rattle.std.specs.Prelude.{ℕ, Bool, false, List, Option, Some, None, if◌then◌else◌}
use Rattle.std.specs.List.{filter_map, find}
use Rattle.std.specs.Option.{option_and_then, option_map}
use Rattle.std.specs.Str.{bytes_eq}
use denote.Enum.Bare.{sameb}
use Rattle.sbl_semantics.specs.contracts.fault.RunFault as fault
use Rattle.sbl_semantics.specs.Outcome.{Outcome', Stem, Refused, outcome_of}
use Rattle.sbl_rows.specs.Rows.{Row}
use Rattle.sbl_rows.specs.declared.changed_row.ChangedRow as declared

-- a word with two outcomes
pub record ChangedRow : Type 0 where
  pub word : List ℕ
  pub before : Outcome'
  pub after : Outcome'

-- whether two outcomes are the same stem, or refusals for the same reason
abbrev pub same_outcome : Outcome' → Outcome' → Bool
same_outcome (Stem s) (Stem t) = bytes_eq s t
same_outcome (Refused f) (Refused g) = sameb fault.the_type f g
same_outcome o p = false

-- the outcome of a word in rows; none if it has no row
abbrev pub outcome_in : List Row → List ℕ → Option Outcome'
outcome_in rows word = option_map (λ r. r.outcome) (find (λ r. bytes_eq word r.word) rows)

-- a word with its outcomes, if they differ
abbrev pub if_changed : List ℕ → Outcome' → Outcome' → Option ChangedRow
if_changed word before after = if same_outcome before after then None else Some (record { word = word; before = before; after = after })

-- the words that have a row in both lists, with different outcomes; in the order of the second list
abbrev pub changed_rows : List Row → List Row → List ChangedRow
changed_rows before after = filter_map (λ r. option_and_then (λ o. if_changed r.word o r.outcome) (outcome_in before r.word)) after

abbrev pub view_changed_row : declared.ChangedRow → ChangedRow
view_changed_row c = record { word = c.word.now; before = outcome_of c.before.now; after = outcome_of c.after.now }
