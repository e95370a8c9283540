-- A run does not depend on what it does not touch.
use Rattle.std.specs.Prelude.{◌≡◌, ℕ, Bool, false, List, map}
use Rattle.std.specs.List.{list_any}
use Rattle.std.specs.List.Sorted.{IsStrictlySortedBy}
use Rattle.sbl_resolver.specs.Checks.{WellDeclared}
use Rattle.sbl_machine.specs.BuiltFrom.{IsClosed, is_affected_by, affected_by, meets, meets_one}
use Rattle.sbl_machine.specs.Holes.{holed_script}
use Rattle.sbl_semantics.specs.Outcome.{run_of, used_of, touches_of}
use Rattle.sbl_semantics.specs.TouchedItems.{item_cmp, item_of_touch, same_item, touched_items, touches, names_of}
use Rattle.sbl_ast.specs.NamedParts.{Part'}
use Rattle.sbl_script.specs.Edits.{IsEdited}
use Rattle.sbl_ast.specs.Source.{Source}

-- Two scripts agree outside the picked items if they are equal after each picked item is replaced by a hole. A hole
-- keeps the number of amongs of an among.
abbrev pub AgreeOutside : (Part' → Bool) → Source → Source → Type 0
AgreeOutside picked s t = holed_script picked s ≡ holed_script picked t

-- a word has the same run under two scripts: the same outcome, the same items touched, the same number of steps used
pub record RunsAlike (s t : Source) (word : List ℕ) (limit : ℕ) : Type 0 where
  pub outcome : run_of t word limit ≡ run_of s word limit
  pub touched : touched_items t word limit ≡ touched_items s word limit
  pub used : used_of t word limit ≡ used_of s word limit

-- Two scripts agree outside the picked items, and these are closed in the first. If the run of a word under the first
-- touches no picked item, the word runs alike under both.
abbrev pub Frame : Type 0
Frame =
    (picked : Part' → Bool) (s t : Source) → IsClosed picked s → AgreeOutside picked s t → (word : List ℕ) (limit : ℕ) →
    list_any picked (touched_items s word limit) ≡ false → RunsAlike s t word limit

-- after an edit, the script agrees with the old one outside the items that the edit affects
abbrev pub EditsAgree : Type 0
EditsAgree = (s t : Source) (e : Part') (text : List ℕ) → IsEdited s e text t → AgreeOutside (is_affected_by s e) s t

abbrev pub NamesStay : Type 0
NamesStay = (s t : Source) (e : Part') (text : List ℕ) → IsEdited s e text t → names_of t ≡ names_of s

-- a word has the same run under the second script, and touches the same numbers
pub record StaysAsItWas (s t : Source) (word : List ℕ) (limit : ℕ) : Type 0 where
  pub alike : RunsAlike s t word limit
  pub touches : touches_of t word limit ≡ touches_of s word limit

-- In a well-declared script, if the run of a word before an edit touches nothing that the edit affects, the word runs
-- as before.
abbrev pub UntouchedStay : Type 0
UntouchedStay =
    (s t : Source) (e : Part') (text : List ℕ) → WellDeclared s.items s.external → IsEdited s e text t → (word : List ℕ) (limit : ℕ) →
    meets e s word limit ≡ false → StaysAsItWas s t word limit

-- The same for any two scripts that agree outside what an edit of item x affects.
abbrev pub UnmetStay : Type 0
UnmetStay =
    (x : Part') (s t : Source) → WellDeclared s.items s.external → AgreeOutside (is_affected_by s x) s t → (word : List ℕ) (limit : ℕ) →
    meets x s word limit ≡ false → StaysAsItWas s t word limit

-- The same for any two scripts that agree outside what an edit of one of several items affects.
abbrev pub UnmetByOneStay : Type 0
UnmetByOneStay =
    (xs : List Part') (s t : Source) → WellDeclared s.items s.external → AgreeOutside (affected_by s xs) s t → (word : List ℕ) (limit : ℕ) →
    meets_one xs s word limit ≡ false → StaysAsItWas s t word limit

-- Two scripts that agree outside some items have the same names of routines and groupings, whatever made the second. If
-- these items are closed too, each word whose run touches none of them runs as before, and touches the same numbers.
abbrev pub AgreeingNamesStay : Type 0
AgreeingNamesStay = (picked : Part' → Bool) (s t : Source) → AgreeOutside picked s t → names_of t ≡ names_of s

abbrev pub ClearStay : Type 0
ClearStay =
    (picked : Part' → Bool) (s t : Source) → IsClosed picked s → AgreeOutside picked s t → (word : List ℕ) (limit : ℕ) →
    list_any picked (map (item_of_touch (names_of s)) (touches_of s word limit)) ≡ false → StaysAsItWas s t word limit

-- a run touches an item exactly if the item is in its list of touched items
abbrev pub TouchesAreTouched : Type 0
TouchesAreTouched =
    (x : Part') (script : Source) (word : List ℕ) (limit : ℕ) → list_any (same_item x) (touched_items script word limit) ≡ touches x script word limit

-- this list is in strictly ascending order
abbrev pub TouchedRise : Type 0
TouchedRise = (script : Source) (word : List ℕ) (limit : ℕ) → IsStrictlySortedBy item_cmp (touched_items script word limit)
