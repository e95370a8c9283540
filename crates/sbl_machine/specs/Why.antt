-- Why a word has its stem: laws of the events of its run.
use Rattle.std.specs.Prelude.{◌≡◌, ℕ, Bool, true, false, List, [], ◌∷◌}
use Rattle.std.specs.List.{filter, splice}
use Rattle.sbl_semantics.specs.Meaning.{ending_with_events}
use Rattle.sbl_semantics.specs.Outcome.{Stem, integers_at, integers_of, outcome_at, touched_at, used_at, run_of, touches_of, used_of, events_of}
use Rattle.sbl_semantics.specs.Events.{Event', Enters, Searches, Puts}
use Rattle.sbl_semantics.specs.Touches.{with_touch}
use Rattle.sbl_semantics.specs.declared.touch.Touch.{Touch}
use Rattle.sbl_semantics.specs.declared.touch.Touch.TheVariants.{Entered, Searched, Tested}
use Rattle.sbl_ast.specs.Source.{Source}

-- a run that records its events gives the same outcome, uses the same number of steps, touches the same and leaves the
-- same in the integer variables as the run that does not
pub record ChangesNothing (script : Source) (word : List ℕ) (limit : ℕ) : Type 0 where
  pub outcome : outcome_at (ending_with_events script word limit) ≡ run_of script word limit
  pub used : used_at limit (ending_with_events script word limit) ≡ used_of script word limit
  pub touches : touched_at (ending_with_events script word limit) ≡ touches_of script word limit
  pub integers : integers_at (ending_with_events script word limit) ≡ integers_of script word limit

abbrev pub EventsChangeNothing : Type 0
EventsChangeNothing = (script : Source) (word : List ℕ) (limit : ℕ) → ChangesNothing script word limit

-- the text after one event
abbrev pub text_after_one : List ℕ → Event' → List ℕ
text_after_one text (Puts from to put) = splice text from to put
text_after_one text x = text

-- the text after these events, in order
abbrev pub text_after : List ℕ → List Event' → List ℕ
text_after text [] = text
text_after text (x ∷ xs) = text_after (text_after_one text x) xs

-- if a run gives a stem, making its recorded replacements on the word, in order, gives that stem
abbrev pub PutsGiveTheStem : Type 0
PutsGiveTheStem =
    (script : Source) (word : List ℕ) (limit : ℕ) (stem : List ℕ) → run_of script word limit ≡ Stem stem
    → text_after word (events_of script word limit) ≡ stem

-- what is touched after one event: a call touches its routine, a search its among
abbrev pub touches_after_one : List Touch → Event' → List Touch
touches_after_one touches (Enters i) = with_touch (Entered i) touches
touches_after_one touches (Searches i k m at) = with_touch (Searched i k) touches
touches_after_one touches x = touches

-- what is touched after these events, in order
abbrev pub touches_after : List Touch → List Event' → List Touch
touches_after touches [] = touches
touches_after touches (x ∷ xs) = touches_after (touches_after_one touches x) xs

abbrev pub is_no_test : Touch → Bool
is_no_test (Tested g) = false
is_no_test x = true

-- The routines entered and the amongs searched, each once in the order of first occurrence, are what the run touches.
-- Tests of groupings are no events.
abbrev pub EventsTouch : Type 0
EventsTouch =
    (script : Source) (word : List ℕ) (limit : ℕ)
    → touches_after [] (events_of script word limit) ≡ filter is_no_test (touches_of script word limit)
