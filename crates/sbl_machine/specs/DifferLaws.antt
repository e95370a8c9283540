-- What holds for the items in which two scripts differ.
use Rattle.std.specs.Prelude.{◌≡◌, ℕ, true, false, List, [], ◌∷◌, Some, None}
use Rattle.std.specs.List.{list_all}
use Rattle.sbl_resolver.specs.Checks.{WellDeclared}
use Rattle.sbl_machine.specs.BuiltFrom.{IsClosed, is_affected_by, affected_by, meets, meets_one}
use Rattle.sbl_semantics.specs.Differs.{differs}
use Rattle.sbl_machine.specs.Frame.{AgreeOutside, StaysAsItWas}
use Rattle.sbl_machine.specs.Marks.{has_item}
use Rattle.sbl_semantics.specs.TouchedItems.{names_of}
use Rattle.sbl_ast.specs.NamedParts.{Part'}
use Rattle.sbl_ast.specs.Source.{Source}

-- ---- when there is a list of differing items

-- two scripts are equal after the bodies of all routines and the terms of all groupings are replaced by holes
abbrev pub DifferOnlyInItems : Source → Source → Type 0
DifferOnlyInItems s t = AgreeOutside (λ x. true) s t

-- two scripts have a list of differing items only if they differ only in items
abbrev pub OnlyItemsDiffer : Type 0
OnlyItemsDiffer = (s t : Source) (xs : List Part') → differs s t ≡ Some xs → DifferOnlyInItems s t

-- they have none only if more differs
abbrev pub MoreDiffers : Type 0
MoreDiffers = (s t : Source) → differs s t ≡ None → DifferOnlyInItems s t → ⊥

-- a script differs from itself in no item
abbrev pub AlikeDifferNowhere : Type 0
AlikeDifferNowhere = (s : Source) → differs s s ≡ Some []

-- ---- what the differing items say

-- the script defines the routines and groupings of the differing items
abbrev pub DifferingAreThere : Type 0
DifferingAreThere = (s t : Source) (xs : List Part') → differs s t ≡ Some xs → list_all (has_item (names_of s)) xs ≡ true

-- Two scripts agree outside what an edit of one of the differing items affects. In a well-declared script, these items
-- are closed.
abbrev pub DifferingAgree : Type 0
DifferingAgree =
    (s t : Source) (xs : List Part') → WellDeclared s.items s.external → differs s t ≡ Some xs →
    IsClosed (affected_by s xs) s × AgreeOutside (affected_by s xs) s t

-- So if the run of a word under the first script meets none of these items, the word runs alike under the second.
abbrev pub DifferingStay : Type 0
DifferingStay =
    (s t : Source) (xs : List Part') → WellDeclared s.items s.external → differs s t ≡ Some xs → (word : List ℕ) (limit : ℕ) →
    meets_one xs s word limit ≡ false → StaysAsItWas s t word limit

-- ---- a list of one item affects what the item affects

abbrev pub OneAffects : Type 0
OneAffects = (s : Source) (x y : Part') → affected_by s (x ∷ []) y ≡ is_affected_by s x y

abbrev pub OneMeets : Type 0
OneMeets = (x : Part') (s : Source) (word : List ℕ) (limit : ℕ) → meets_one (x ∷ []) s word limit ≡ meets x s word limit
