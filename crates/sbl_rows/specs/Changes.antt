-- What two lists of rows have different.
use Rattle.std.specs.Prelude.{ℕ, Bool, true, false, ◌&&◌, List, [], ◌∷◌, ◌++◌, map, Option, Some, None, if◌then◌else◌}
use Rattle.std.specs.List.{filter_map, list_any}
use Rattle.std.specs.Str.{bytes_eq}
use Rattle.sbl_rows.specs.declared.change.ChangeRow.{ChangeRow}
use Rattle.sbl_rows.specs.declared.change.ChangeRow.TheVariants as code
use Rattle.sbl_semantics.specs.Outcome.{Outcome'}
use Rattle.sbl_rows.specs.Rows.{Row, view_outcome}
use Rattle.sbl_rows.specs.ChangedRows.{outcome_in, same_outcome}
use Rattle.sbl_rows.specs.Classes.{texts_of, Class, Pair}
use Rattle.sbl_rows.specs.Moves.{moves_of, new_classes, old_classes}

pub data Change : Type 0 where
  Added : List ℕ → Change
  Removed : List ℕ → Change
  Changed : List ℕ → Outcome' → Outcome' → Change
  Split : List ℕ → List (List ℕ) → Change
  Merged : List ℕ → List (List ℕ) → Change
  Renamed : List ℕ → List ℕ → Change

-- a word that had no row is added
abbrev pub word_addition : Option Outcome' → Row → Option Change
word_addition None r = Some (Added r.word)
word_addition (Some o) r = None

-- a word that has no row any more is removed
abbrev pub word_removal : Option Outcome' → Row → Option Change
word_removal None r = Some (Removed r.word)
word_removal (Some o) r = None

-- a word of both lists is changed if its outcome is another one
abbrev pub outcome_change : Option Outcome' → Row → Option Change
outcome_change None r = None
outcome_change (Some o) r = if same_outcome o r.outcome then None else Some (Changed r.word o r.outcome)

-- a class before is split if its words now have two stems or more
abbrev pub class_split : Class → List (List ℕ) → Option Change
class_split c [] = None
class_split c (n ∷ []) = None
class_split c (n ∷ m ∷ ns) = Some (Split c.stem (n ∷ m ∷ ns))

-- a class now is merged if its words had two stems or more
abbrev pub class_merger : Class → List (List ℕ) → Option Change
class_merger c [] = None
class_merger c (o ∷ []) = None
class_merger c (o ∷ p ∷ os) = Some (Merged c.stem (o ∷ p ∷ os))

-- one member alone
abbrev pub is_one : List (List ℕ) → Bool
is_one [] = false
is_one (m ∷ []) = true
is_one (m ∷ n ∷ ms) = false

-- all words of the class of this stem have one stem in the other list
abbrev pub is_from_one : List Class → List ℕ → Bool
is_from_one classes stem = list_any (λ c. bytes_eq c.stem stem && is_one c.members) classes

-- a class before is renamed if its words are exactly those of one class now, and that has another stem
abbrev pub class_renaming : List Class → Class → List (List ℕ) → Option Change
class_renaming now c [] = None
class_renaming now c (n ∷ []) = if bytes_eq c.stem n then None else (if is_from_one now n then Some (Renamed c.stem n) else None)
class_renaming now c (n ∷ m ∷ ns) = None

-- split, merged and renamed classes
abbrev pub class_changes : List Class → List Class → List Change
class_changes old new =
    filter_map (λ c. class_split c c.members) old
    ++ filter_map (λ c. class_merger c c.members) new
    ++ filter_map (λ c. class_renaming new c c.members) old

-- the changes of these moves
abbrev pub changes_by : List Pair → List Change
changes_by moves = class_changes (old_classes moves) (new_classes moves)

-- added, removed and changed words, then the changes of classes
abbrev pub changes_of : List Row → List Row → List Change
changes_of before after =
    filter_map (λ r. word_addition (outcome_in before r.word) r) after
    ++ filter_map (λ r. word_removal (outcome_in after r.word) r) before
    ++ filter_map (λ r. outcome_change (outcome_in before r.word) r) after
    ++ changes_by (moves_of (outcome_in before) after)

-- the change that the code's value represents
abbrev pub view_change : ChangeRow → Change
view_change (code.Added w) = Added w.now
view_change (code.Removed w) = Removed w.now
view_change (code.Changed w o n) = Changed w.now (view_outcome o) (view_outcome n)
view_change (code.Split c) = Split c.stem.now (texts_of c.members.items)
view_change (code.Merged c) = Merged c.stem.now (texts_of c.members.items)
view_change (code.Renamed o n) = Renamed o.now n.now

abbrev pub view_changes : List ChangeRow → List Change
view_changes changes = map view_change changes
