-- The search of an among.
use Rattle.std.specs.Prelude.{ℕ, true, false, List, [], ◌∷◌, length, nat_lt, if◌then◌else◌, Option, Some, None, slice_get}
use Rattle.sbl_program.specs.declared.node.Candidate.{Candidate}
use Rattle.sbl_program.specs.AmongStrings.{Listing}
use Rattle.sbl_program.specs.Listing.{fits_at}
use Rattle.sbl_semantics.specs.State.{State, Ending, Signals, Doing, after, then_on, pay, saved_cursor, limit_of, place_after}
use Rattle.sbl_ast.specs.declared.mode.Mode.{Mode}
use Rattle.sbl_ast.specs.declared.mode.Mode.TheVariants.{Forward, Backward}
use Rattle.sbl_semantics.specs.Choices.{take_string, take_none, touch_among}

-- the end of the part ahead, as an offset of the text
abbrev pub bound_in : Mode → State → ℕ
bound_in Forward s = limit_of s
bound_in Backward s = if nat_lt s.left (length s.text) then s.left else length s.text

-- the condition of a string: a call, which uses a step of its own
abbrev pub condition_does : (ℕ → Doing) → Option ℕ → Mode → State → Ending
condition_does call None m s = Signals true s
condition_does call (Some i) m s = then_on (pay s.steps s) (call i m)

-- One string: the cursor moves to just after it, and its condition is called. At t it is taken, and the cursor is set
-- just after it again; at f `next` continues from the state that the condition left.
abbrev pub try_one : (ℕ → Doing) → ℕ → Option Candidate → Mode → State → State → (State → Ending) → Ending
try_one call k None m from s next = Signals true s
try_one call k (Some e) m from s next =
    then_on (place_after m (saved_cursor from) e.length s) (λ a.
    after (condition_does call e.condition m a)
    (λ b. then_on (place_after m (saved_cursor from) e.length b) (λ c. Signals true (take_string k e.length e.group c)))
    next)

-- the strings one after another, from the state in which the search began; if none is taken, nothing is chosen
abbrev pub tries : (ℕ → Doing) → ℕ → List Candidate → Mode → State → List ℕ → State → Ending
tries call k entries m from [] s = Signals false (take_none k s)
tries call k entries m from (i ∷ is) s =
    try_one call k (slice_get entries i) m from s (tries call k entries m from is)

-- the strings that match where the search begins, the longest first
abbrev pub search_strings : (ℕ → Doing) → ℕ → List Candidate → Listing → Mode → State → Ending
search_strings call k entries strings m s = tries call k entries m s (fits_at strings s.text s.cursor (bound_in m s)) s

-- a search touches its among, whatever its result
abbrev pub search_all : (ℕ → Doing) → ℕ → List Candidate → Listing → Mode → State → Ending
search_all call k entries strings m s = search_strings call k entries strings m (touch_among k m s)
