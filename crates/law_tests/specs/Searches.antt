-- Searches in the events of a run.
use Rattle.std.specs.Prelude.{◌≡◌, ℕ, false, List, [], ◌∷◌, ◌++◌}
use Rattle.std.specs.List.{list_any}
use Rattle.sbl_ast.specs.Order.{in_order}
use Rattle.sbl_ast.specs.Source.{Source}
use Rattle.sbl_ast.specs.declared.mode.Mode.{Mode}
use Rattle.sbl_uses.specs.Searches.{EndsWith, course, fits, is_conditional}
use Rattle.sbl_semantics.specs.Events.{Event', Searches}
use Rattle.sbl_semantics.specs.Fitting.{ahead_at}
use Rattle.sbl_semantics.specs.Items.{body_named, char_class_of, classes_after, known_in}
use Rattle.sbl_semantics.specs.Meaning.{Offer, calls, search}
use Rattle.sbl_semantics.specs.Outcome.{events_at}
use Rattle.sbl_semantics.specs.Landmarks.{Among}
use Rattle.sbl_semantics.specs.State.{Ending, State, bound_of}

-- the end of a search of an among in a run of the script, if this many levels are left
abbrev pub search_in : Source → ℕ → Among → Mode → State → Ending
search_in script levels a m s =
    let items = in_order script.items in
    search (calls (known_in items) (char_class_of (classes_after items [])) (body_named items) levels) a m s

-- The search is an event after those before it. If it ends, it ends with the first of the strings that fit between the cursor and
-- the limit that is taken, or with none.
abbrev pub TookFirst : Source → Among → Mode → State → List Event' → Ending → Type 0
TookFirst script a m s before end =
    let items = in_order script.items in
    (rest : List Event') × (events_at end ≡ before ++ Searches s.routine a.number m s.cursor ∷ rest)
    × EndsWith (known_in items) (body_named items) a.number s.choices (fits a (ahead_at a.mode s.text s.cursor (bound_of m s))) (course rest) end

-- each search among these events, with the events before and after it, has a property
abbrev pub EachSearch : List Event' → (List Event' → ℕ → ℕ → Mode → ℕ → List Event' → Type 0) → Type 0
EachSearch events P =
    (before rest : List Event') (i k : ℕ) (m : Mode) (cursor : ℕ) → events ≡ before ++ Searches i k m cursor ∷ rest → P before i k m cursor rest

-- none of these strings has a condition
abbrev pub ArePlain : List Offer → Type 0
ArePlain os = list_any (λ o. is_conditional o.condition) os ≡ false
