-- What a search of a run takes: the first of the strings that fit, the longest first, that has no condition or whose
-- condition signalled t.
use Rattle.std.specs.Prelude.{◌≡◌, ◌<◌, ℕ, zero, suc, Bool, true, false, List, [], ◌∷◌, ◌++◌, length, map, ⊤}
use Rattle.std.specs.Prelude.{Option, Some, None, slice_index_or, slice_set}
use Rattle.std.specs.List.{flat_map, list_all, list_any}
use Rattle.sbl_semantics.specs.Meaning.{Offer, calls, ending_with_events, offers, search}
use Rattle.sbl_semantics.specs.Outcome.{events_at, events_of}
use Rattle.sbl_machine.specs.Why.{text_after}
use Rattle.sbl_semantics.specs.Items.{Body, DeclaredNames, body_named, char_class_of, classes_after, known_in, place_of}
use Rattle.sbl_semantics.specs.Landmarks.{Among}
use Rattle.sbl_semantics.specs.Events.{Event', Enters, Leaves, Searches, Finds, Puts}
use Rattle.sbl_semantics.specs.declared.fault.RunFault.TheVariants as faults
use Rattle.sbl_semantics.specs.State.{State, Ending, Signals, Stops, bound_of}
use Rattle.sbl_ast.specs.Source.{Source}
use Rattle.sbl_semantics.specs.Fitting.{ahead_at, fitting, read_all}
use Rattle.sbl_ast.specs.Order.{in_order}
use Rattle.sbl_ast.specs.declared.mode.Mode.{Mode}
use Rattle.sbl_ast.specs.declared.tree.DeclarationKind.TheVariants as kinds
use Rattle.sbl_uses.specs.RoutineAmongs.{HasAmong}

-- ---- the calls and the end of a search

-- a call of a condition: the number of its routine, and the signal with which it returned
pub record Call : Type 0 where
  pub routine : ℕ
  pub signal : Bool

-- the calls that a search made and that have returned, in order, and the event that ended it, if it has ended
pub record Course : Type 0 where
  pub calls : List Call
  pub end : Option Event'

abbrev pub with_calls : List Call → Course → Course
with_calls cs c = record { calls = cs ++ c.calls; end = c.end }

abbrev pub open_course : Course
open_course = record { calls = []; end = None }

-- The course of a search by the events after it began. Its calls are those that no other call is around, and it ends
-- outside of them.
abbrev mutual
  pub course : List Event' → Course
  course [] = open_course
  course (Enters i ∷ es) = within es i 0
  course (Leaves b ∷ es) = course es
  course (Searches i k m at ∷ es) = course es
  course (Finds k taken ∷ es) = record { calls = []; end = Some (Finds k taken) }
  course (Puts from to put ∷ es) = course es

  -- the same from inside its call of routine i, d calls deep in that
  pub within : List Event' → ℕ → ℕ → Course
  within [] i d = open_course
  within (Enters j ∷ es) i d = within es i (suc d)
  within (Leaves b ∷ es) i zero = with_calls (record { routine = i; signal = b } ∷ []) (course es)
  within (Leaves b ∷ es) i (suc d) = within es i d
  within (Searches j k m at ∷ es) i d = within es i d
  within (Finds k taken ∷ es) i d = within es i d
  within (Puts from to put ∷ es) i d = within es i d

-- ---- what is taken

abbrev pub string_of : Offer → List ℕ
string_of o = o.string

abbrev pub no_offer : Offer
no_offer = record { string = []; condition = None; group = 0 }

-- the entries of an among whose strings are a prefix of x, as its mode reads them, the longest first
abbrev pub fits : Among → List ℕ → List Offer
fits a x = map (λ i. slice_index_or (offers 0 a.groups) i no_offer) (fitting (read_all a.mode (map string_of (offers 0 a.groups))) x)

abbrev pub is_conditional : Option (List ℕ) → Bool
is_conditional None = false
is_conditional (Some n) = true

-- the names of the script, and the bodies of its routines
module _ (ns : DeclaredNames) (bodies : List ℕ → Option Body) where
  -- A call of a routine that returns with this signal. A name that no routine has signals f without a call; the checks of
  -- a script refuse such a name.
  abbrev pub call_of : List ℕ → Bool → Option Body → List Call
  call_of n true b = record { routine = place_of (ns kinds.Routines) n; signal = true } ∷ []
  call_of n false (Some b) = record { routine = place_of (ns kinds.Routines) n; signal = false } ∷ []
  call_of n false None = []

  -- the call of a condition, if there is a condition, that returns with this signal
  abbrev pub condition_calls : Bool → Option (List ℕ) → List Call
  condition_calls signal None = []
  condition_calls signal (Some n) = call_of n signal (bodies n)

  -- the calls if the conditions of these entries, in order, all signal f
  abbrev pub refusals : List Offer → List Call
  refusals os = flat_map (λ o. condition_calls false o.condition) os

  -- each of these entries has a condition, which signalled f, and no other condition was called
  pub record AllRefused (os : List Offer) (calls_made : List Call) : Type 0 where
    pub conditional : list_all (λ o. is_conditional o.condition) os ≡ true
    pub calls_are : calls_made ≡ refusals os

  -- An entry whose string has n characters is taken: each one before it has a condition, which signalled f; it has none
  -- itself, or its condition signalled t; no other condition was called.
  pub record OneTaken (os : List Offer) (n : ℕ) (calls_made : List Call) : Type 0 where
    pub before : List Offer
    pub entry : Offer
    pub rest : List Offer
    pub split : os ≡ before ++ entry ∷ rest
    pub length_is : n ≡ length entry.string
    pub conditional : list_all (λ o. is_conditional o.condition) before ≡ true
    pub calls_are : calls_made ≡ refusals before ++ condition_calls true entry.condition

  -- the end of a search of the among with number k, given the entries that fit and the calls that it made; a run may be
  -- refused before the end
  abbrev pub EndsBy : ℕ → List Offer → List Call → Option Event' → Type 0
  EndsBy k os calls_made None = ⊤
  EndsBy k os calls_made (Some (Finds l None)) = (l ≡ k) × AllRefused os calls_made
  EndsBy k os calls_made (Some (Finds l (Some n))) = (l ≡ k) × OneTaken os n calls_made
  EndsBy k os calls_made (Some (Enters i)) = ⊥
  EndsBy k os calls_made (Some (Leaves b)) = ⊥
  EndsBy k os calls_made (Some (Searches i l m at)) = ⊥
  EndsBy k os calls_made (Some (Puts from to put)) = ⊥

  -- what follows a search of an among that began at an offset of a text, if the text up to `limit` is ahead
  abbrev pub TakesFirst : Among → List ℕ → ℕ → ℕ → List Event' → Type 0
  TakesFirst a text at limit rest = let c = course rest in EndsBy a.number (fits a (ahead_at a.mode text at limit)) c.calls c.end

  -- The same with what the search does: with t the group of the entry taken is the choice of the among, with f it has no
  -- choice. `choices` are those before the search.
  abbrev pub EndsWith : ℕ → List (Option ℕ) → List Offer → Course → Ending → Type 0
  EndsWith k choices os c (Signals true s) =
      (n : ℕ) × (c.end ≡ Some (Finds k (Some n))) × (h : OneTaken os n c.calls) × (s.choices ≡ slice_set choices k (Some h.entry.group))
  EndsWith k choices os c (Signals false s) = (c.end ≡ Some (Finds k None)) × AllRefused os c.calls × (s.choices ≡ slice_set choices k None)
  EndsWith k choices os c (Stops fault s) = c.end ≡ None

-- ---- the laws

-- Each search in the definition of a run, from any state, takes the first of the strings that fit between the cursor and
-- the limit.
abbrev pub SearchesTakeFirst : Type 0
SearchesTakeFirst =
    (script : Source) (levels : ℕ) (a : Among) (m : Mode) (s : State) (before : List Event') → s.events ≡ Some before →
    let items = in_order script.items in
    let end = search (calls (known_in items) (char_class_of (classes_after items [])) (body_named items) levels) a m s in
    (rest : List Event') ×
    (events_at end ≡ before ++ Searches s.routine a.number m s.cursor ∷ rest) ×
    EndsWith (known_in items) (body_named items) a.number s.choices (fits a (ahead_at a.mode s.text s.cursor (bound_of m s))) (course rest) end

-- the run is not refused
abbrev pub IsWhole : Ending → Type 0
IsWhole (Signals b s) = ⊤
IsWhole (Stops fault s) = ⊥

-- The search of the k-th among of routine i in the events of a run, after the events `before`. With so many steps the run is
-- refused just before the search, in the state `start`; with one step more the search begins. `rest` is what follows. If the run
-- is not refused, the search ends.
pub record IsSearch (script : Source) (word : List ℕ) (limit : ℕ) (before : List Event') (i k : ℕ) (m : Mode) (cursor : ℕ)
    (rest : List Event') : Type 0 where
  pub steps : ℕ
  pub fewer : steps < limit
  pub start : State
  pub stopped : ending_with_events script word steps ≡ Stops faults.Steps start
  pub so_far : start.events ≡ Some before
  pub next : (later : List Event') × (events_of script word (suc steps) ≡ before ++ Searches i k m cursor ∷ later)
  pub at_cursor : start.cursor ≡ cursor
  pub in_text : start.text ≡ text_after word before
  pub among : Among
  pub there : HasAmong (known_in (in_order script.items)) (body_named (in_order script.items)) i among
  pub number : among.number ≡ k
  pub first : TakesFirst (known_in (in_order script.items)) (body_named (in_order script.items)) among start.text cursor (bound_of m start) rest
  pub ends : IsWhole (ending_with_events script word limit) → (x : Event') × ((course rest).end ≡ Some x)

-- Each search of a run is such a search of one of the script's amongs: from the text that the replacements before it give
-- and up to the limit of the state in which it begins, it takes the first of the strings that fit.
abbrev pub EachSearchTakesFirst : Type 0
EachSearchTakesFirst =
    (script : Source) (word : List ℕ) (limit : ℕ) (before rest : List Event') (i k : ℕ) (m : Mode) (cursor : ℕ) →
    events_of script word limit ≡ before ++ Searches i k m cursor ∷ rest → IsSearch script word limit before i k m cursor rest

-- the number of characters of the first of these entries' strings
abbrev pub first_length : List Offer → Option ℕ
first_length [] = None
first_length (o ∷ os) = Some (length o.string)

-- if none of the entries that fit has a condition, the first of them is taken, and none only if none fits
abbrev pub PlainTakesLongest : Type 0
PlainTakesLongest =
    (ns : DeclaredNames) (bodies : List ℕ → Option Body) (os : List Offer) (calls_made : List Call) (n : ℕ) →
    list_any (λ o. is_conditional o.condition) os ≡ false → OneTaken ns bodies os n calls_made → first_length os ≡ Some n

abbrev pub PlainTakesOne : Type 0
PlainTakesOne =
    (ns : DeclaredNames) (bodies : List ℕ → Option Body) (os : List Offer) (calls_made : List Call) →
    list_any (λ o. is_conditional o.condition) os ≡ false → AllRefused ns bodies os calls_made → first_length os ≡ None
