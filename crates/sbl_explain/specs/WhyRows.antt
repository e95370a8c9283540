-- The rows that tell why a word has its stem.
use Rattle.std.specs.Prelude.{ℕ, zero, suc, ◌-◌, Bool, true, false, List, [], ◌∷◌, ◌++◌, Some, None, codes, decimal, length, slice_index_or, take}
use Rattle.std.specs.Str.{encode_utf8_all}
use Rattle.sbl_rows.specs.Setting.{Setting}
use Rattle.sbl_semantics.specs.Outcome.{Outcome', Stem, Refused, run_of, events_of}
use Rattle.sbl_semantics.specs.TouchedItems.{names_of}
use Rattle.sbl_io.specs.Records.{records_text}
use Rattle.sbl_semantics.specs.Events.{Event', Enters, Leaves, Searches, Finds, Puts}
use Rattle.sbl_semantics.specs.Names.{name_of}
use Rattle.sbl_uses.specs.Moments.{Moment, after, at_start, depth_of, routine_of, string_taken}

-- the names of the routines of a script, by their numbers
abbrev pub routine_names : Setting → List (List ℕ)
routine_names s = (names_of s.script).routines

-- how deep the run is, and the name of its routine
abbrev pub place_fields : List (List ℕ) → Moment → List (List ℕ)
place_fields names m = decimal (depth_of m) ∷ slice_index_or names (routine_of m) [] ∷ []

-- the same, and the number of an among of the routine, from 1
abbrev pub among_fields : List (List ℕ) → Moment → ℕ → List (List ℕ)
among_fields names m k = place_fields names m ++ decimal (suc k) ∷ []

abbrev pub signal_field : Bool → List ℕ
signal_field true = codes "t"
signal_field false = codes "f"

-- The row of an event, given the names of routines. A call is in the routine that it enters; a change shows the text after it.
abbrev pub row_of : List (List ℕ) → Moment → Event' → List (List ℕ)
row_of names m (Enters i) = codes "call" ∷ place_fields names (after (Enters i) m)
row_of names m (Leaves signal) = codes "return" ∷ (place_fields names m ++ signal_field signal ∷ [])
row_of names m (Searches i k mode cursor) = codes "search" ∷ among_fields names m k
row_of names m (Finds k None) = codes "none" ∷ among_fields names m k
row_of names m (Finds k (Some n)) = codes "taken" ∷ (among_fields names m k ++ encode_utf8_all (string_taken n m) ∷ [])
row_of names m (Puts from to put) =
    codes "put" ∷ (place_fields names m ++ decimal from ∷ decimal to ∷ encode_utf8_all put ∷ encode_utf8_all (after (Puts from to put) m).text ∷ [])

-- the rows of events, in order
abbrev pub rows_from : List (List ℕ) → Moment → List Event' → List (List (List ℕ))
rows_from names m [] = []
rows_from names m (e ∷ events) = row_of names m e ∷ rows_from names (after e m) events

-- no more events than this have a row
abbrev pub max_events : ℕ
max_events = 10000

abbrev pub first_events : {X : Type 0} → List X → List X
first_events events = take max_events events

-- how many events have no row
abbrev pub more_rows : ℕ → List (List (List ℕ))
more_rows zero = []
more_rows (suc n) = (codes "more" ∷ decimal (suc n) ∷ []) ∷ []

abbrev pub outcome_row : Outcome' → List (List ℕ)
outcome_row (Stem text) = codes "stem" ∷ encode_utf8_all text ∷ []
outcome_row (Refused fault) = codes "refused" ∷ name_of fault ∷ []

-- A row for each of the first 10,000 events of a run on a word, a row with the number of the others if there are more, and a
-- row for the outcome.
abbrev pub why_rows : List (List ℕ) → List ℕ → List Event' → Outcome' → List (List (List ℕ))
why_rows names word events outcome =
    rows_from names (at_start word) (first_events events) ++ (more_rows (length events - length (first_events events)) ++ outcome_row outcome ∷ [])

-- the rows of a fresh run of a word under a script and a limit
abbrev pub why_text : Setting → List ℕ → List ℕ
why_text s word = records_text (why_rows (routine_names s) word (events_of s.script word s.limit) (run_of s.script word s.limit))
