-- The outcome of a run on a word, the steps that it uses, and its events.
use Rattle.std.specs.Prelude.{ℕ, ℤ, ◌+◌, ◌-◌, List, [], Option, Some, None}
use Rattle.sbl_semantics.specs.declared.fault.RunFault.{RunFault}
use Rattle.sbl_semantics.specs.declared.fault.RunFault.TheVariants as faults
use Rattle.sbl_semantics.specs.declared.outcome.Outcome.{Outcome}
use Rattle.sbl_semantics.specs.declared.outcome.Outcome.TheVariants as code
use Rattle.sbl_semantics.specs.declared.touch.Touch.{Touch}
use Rattle.sbl_semantics.specs.Meaning.{ending, ending_with_events}
use Rattle.sbl_semantics.specs.State.{Ending, Signals, Stops}
use Rattle.sbl_ast.specs.Source.{Source}
use Rattle.sbl_semantics.specs.Events.{Event'}

-- a stem, or why there is none
pub data Outcome' : Type 0 where
  Stem : List ℕ → Outcome'
  Refused : RunFault → Outcome'

-- the outcome that the code's value represents
abbrev pub outcome_of : Outcome → Outcome'
outcome_of (code.Stem text) = Stem text.items
outcome_of (code.Refused fault) = Refused fault

-- the stem is the text at the end of the run, whatever the signal
abbrev pub outcome_at : Ending → Outcome'
outcome_at (Signals b s) = Stem s.text
outcome_at (Stops fault s) = Refused fault

-- the number of steps used; limit + 1 if the run was refused for its steps
abbrev pub used_at : ℕ → Ending → ℕ
used_at limit (Signals b s) = limit - s.steps
used_at limit (Stops faults.Steps s) = limit + 1
used_at limit (Stops fault s) = limit - s.steps

-- what the run touched, by number
abbrev pub touched_at : Ending → List Touch
touched_at (Signals b s) = s.touched
touched_at (Stops fault s) = s.touched

-- the values of the integer variables at the end of the run, by number
abbrev pub integers_at : Ending → List ℤ
integers_at (Signals b s) = s.integers
integers_at (Stops fault s) = s.integers

-- the outcome of a run of a script on a word, with this limit of steps
unfoldable pub run_of : Source → List ℕ → ℕ → Outcome'
run_of script word limit = outcome_at (ending script word limit)

unfoldable pub used_of : Source → List ℕ → ℕ → ℕ
used_of script word limit = used_at limit (ending script word limit)

-- what this run touches, by number
unfoldable pub touches_of : Source → List ℕ → ℕ → List Touch
touches_of script word limit = touched_at (ending script word limit)

-- the values of the integer variables at the end of this run, by number
unfoldable pub integers_of : Source → List ℕ → ℕ → List ℤ
integers_of script word limit = integers_at (ending script word limit)

abbrev pub events_in : Option (List Event') → List Event'
events_in None = []
events_in (Some xs) = xs

abbrev pub events_at : Ending → List Event'
events_at (Signals b s) = events_in s.events
events_at (Stops fault s) = events_in s.events

-- the events of a run of a script on a word, with this limit, up to its end or to where it is refused
unfoldable pub events_of : Source → List ℕ → ℕ → List Event'
events_of script word limit = events_at (ending_with_events script word limit)
