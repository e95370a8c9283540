-- What holds for each among of a well declared script.
use Rattle.std.specs.Prelude.{◌≡◌, ℕ, false, List, [], ◌∷◌, ◌++◌, map}
use Rattle.std.specs.List.{IsDistinct}
use Rattle.std.specs.Str.{bytes_eq}
use Rattle.sbl_ast.specs.Tree.{Entry, entry, Command, bracket, prefixed, counted, setlimit_, among_, Rows, no_rows, row, Others, no_others}
use Rattle.sbl_ast.specs.Tree.{joined, Starter, no_starter, starter, Groups, bare, group, Plain, routine, Item, plain, backward}
use Rattle.sbl_resolver.specs.Occurrences.{is_empty}
use Rattle.sbl_resolver.specs.Checks.{WellDeclared}

-- the characters of a string
abbrev pub text_of : Entry → List ℕ
text_of (entry q c) = q.value

-- the strings of these groups, in text order
abbrev pub texts_of : Groups → List (List ℕ)
texts_of (bare es) = map text_of es
texts_of (group e es rs gs) = (text_of e ∷ map text_of es) ++ texts_of gs

-- there is at least one string, and the strings differ in their characters
pub record IsSound (gs : Groups) : Type 0 where
  pub strings_differ : IsDistinct bytes_eq (texts_of gs)
  pub has_strings : is_empty gs ≡ false

-- P holds for each among of a command, also for those inside another among
abbrev mutual
  pub EachAmong : (Groups → Type 0) → Command → Type 0
  EachAmong P (bracket rs) = EachAmongOfRows P rs
  EachAmong P (prefixed x c) = EachAmong P c
  EachAmong P (counted n e c) = EachAmong P c
  EachAmong P (setlimit_ b c) = EachAmong P b × EachAmong P c
  EachAmong P (among_ s gs) = P gs × EachAmongOfStarter P s × EachAmongOfGroups P gs
  EachAmong P _ = Unit {0}

  pub EachAmongOfRows : (Groups → Type 0) → Rows → Type 0
  EachAmongOfRows P no_rows = Unit {0}
  EachAmongOfRows P (row c os rs) = EachAmong P c × EachAmongOfOthers P os × EachAmongOfRows P rs

  pub EachAmongOfOthers : (Groups → Type 0) → Others → Type 0
  EachAmongOfOthers P no_others = Unit {0}
  EachAmongOfOthers P (joined j c os) = EachAmong P c × EachAmongOfOthers P os

  pub EachAmongOfStarter : (Groups → Type 0) → Starter → Type 0
  EachAmongOfStarter P no_starter = Unit {0}
  EachAmongOfStarter P (starter rs) = EachAmongOfRows P rs

  pub EachAmongOfGroups : (Groups → Type 0) → Groups → Type 0
  EachAmongOfGroups P (bare es) = Unit {0}
  EachAmongOfGroups P (group e es rs gs) = EachAmongOfRows P rs × EachAmongOfGroups P gs

-- P holds for each among of a script
abbrev pub EachAmongOfPlain : (Groups → Type 0) → Plain → Type 0
EachAmongOfPlain P (routine n c os) = EachAmong P c × EachAmongOfOthers P os
EachAmongOfPlain P _ = Unit {0}

abbrev pub EachAmongOfPlains : (Groups → Type 0) → List Plain → Type 0
EachAmongOfPlains P [] = Unit {0}
EachAmongOfPlains P (x ∷ xs) = EachAmongOfPlain P x × EachAmongOfPlains P xs

abbrev pub EachAmongOfItems : (Groups → Type 0) → List Item → Type 0
EachAmongOfItems P [] = Unit {0}
EachAmongOfItems P (plain x ∷ is) = EachAmongOfPlain P x × EachAmongOfItems P is
EachAmongOfItems P (backward xs ∷ is) = EachAmongOfPlains P xs × EachAmongOfItems P is

-- each among of a well declared script is sound
abbrev pub AmongsAreSound : Type 0
AmongsAreSound = (items : List Item) (external : List ℕ) → WellDeclared items external → EachAmongOfItems IsSound items
