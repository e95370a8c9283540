-- The events that a run records on request.
use Rattle.std.specs.Prelude.{ℕ, Bool, List, map, Option, Some, None}
use Rattle.std.specs.declared.alloc.Global.{Global}
use Rattle.std.specs.declared.vec.Vec.{Vec}
use Rattle.sbl_semantics.specs.declared.event.Event.{Event}
use Rattle.sbl_semantics.specs.declared.event.Event.TheVariants as code
use Rattle.sbl_ast.specs.declared.mode.Mode.{Mode}

pub data Event' : Type 0 where
  -- the run enters the body of the routine with this number
  Enters : ℕ → Event'
  -- the body that was entered last and not left yet ends with this signal
  Leaves : Bool → Event'
  -- a search begins: the number of its routine, the number of its among there, the mode, and the offset of the cursor
  Searches : ℕ → ℕ → Mode → ℕ → Event'
  -- the search of the among with this number, which began last and has not ended yet, takes the string of this many
  -- characters that was ahead when it began, or none
  Finds : ℕ → Option ℕ → Event'
  -- the characters between two offsets of the text are replaced by these
  Puts : ℕ → ℕ → List ℕ → Event'

-- the code's event without memory addresses
abbrev pub event_of : Event → Event'
event_of (code.Enters routine) = Enters routine
event_of (code.Leaves signal) = Leaves signal
event_of (code.Searches routine among mode cursor) = Searches routine among mode cursor
event_of (code.Finds among length) = Finds among length
event_of (code.Puts from to put) = Puts from to put.items

-- the same for all that a run records
abbrev pub view_events : Option (Vec Event Global) → Option (List Event')
view_events None = None
view_events (Some events) = Some (map event_of events.items)
