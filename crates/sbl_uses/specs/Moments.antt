-- Where a run is between two of its events.
use Rattle.std.specs.Prelude.{ℕ, ◌-◌, List, [], ◌∷◌, ◌++◌, length, take, drop, slice_index_or}
use Rattle.std.specs.List.{splice}
use Rattle.sbl_semantics.specs.Events.{Event', Enters, Leaves, Searches, Finds, Puts}
use Rattle.sbl_ast.specs.declared.mode.Mode.{Mode}
use Rattle.sbl_ast.specs.declared.mode.Mode.TheVariants.{Forward, Backward}

-- the characters ahead of an offset of a text, the nearest first or, backwards, the nearest last
abbrev pub ahead_of : Mode → ℕ → List ℕ → List ℕ
ahead_of Forward cursor text = drop cursor text
ahead_of Backward cursor text = take cursor text

-- the nearest n of these characters, as they stand in the text
abbrev pub nearest : Mode → ℕ → List ℕ → List ℕ
nearest Forward n text = take n text
nearest Backward n text = drop (length text - n) text

-- a search: its mode, and the characters that were ahead when it began
pub record OpenSearch : Type 0 where
  pub mode : Mode
  pub ahead : List ℕ

-- the routines whose bodies the run is in, and the searches that have not ended, each with the latest last; the text
pub record Moment : Type 0 where
  pub routines : List ℕ
  pub searches : List OpenSearch
  pub text : List ℕ

-- before the first event
abbrev pub at_start : List ℕ → Moment
at_start word = record { routines = []; searches = []; text = word }

abbrev pub without_last : {X : Type 0} → List X → List X
without_last xs = take (length xs - 1) xs

-- after an event
abbrev pub after : Event' → Moment → Moment
after (Enters i) m = record m { routines = m.routines ++ i ∷ [] }
after (Leaves signal) m = record m { routines = without_last m.routines }
after (Searches i k mode cursor) m = record m { searches = m.searches ++ record { mode = mode; ahead = ahead_of mode cursor m.text } ∷ [] }
after (Finds k taken) m = record m { searches = without_last m.searches }
after (Puts from to put) m = record m { text = splice m.text from to put }

-- the routine whose commands the run makes
abbrev pub routine_of : Moment → ℕ
routine_of m = slice_index_or m.routines (length m.routines - 1) 0

-- how many calls deep it is; the external is 0 deep
abbrev pub depth_of : Moment → ℕ
depth_of m = length m.routines - 1

abbrev pub no_search : OpenSearch
no_search = record { mode = Forward; ahead = [] }

-- the string of n characters that the search which began last takes
abbrev pub string_taken : ℕ → Moment → List ℕ
string_taken n m = let s = slice_index_or m.searches (length m.searches - 1) no_search in nearest s.mode n s.ahead
