-- A name for a part of Events.antt.
use Rattle.std.specs.Prelude.{List, [], ◌∷◌, ◌++◌, Option, option_map}
use Rattle.sbl_semantics.specs.Events.{Event'}

-- the event added after those so far, if the run records events
abbrev pub with_event : Event' → Option (List Event') → Option (List Event')
with_event x events = option_map (λ xs. xs ++ (x ∷ [])) events
