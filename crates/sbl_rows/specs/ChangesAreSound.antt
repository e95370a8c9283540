-- Laws of the changes between any two lists of rows.
use Rattle.std.specs.Prelude.{◌≡◌, ◌⊎◌, ℕ, Bool, List, [], map, None}
use Rattle.std.specs.List.{IsDistinct, list_any}
use Rattle.std.specs.Str.{bytes_eq}
use Rattle.sbl_rows.specs.Changes.{Added, Change, Changed, Merged, Removed, Renamed, Split, changes_of, class_renaming, class_split}
use Rattle.sbl_rows.specs.Classes.{Class}
use Rattle.sbl_rows.specs.Rows.{Row}

-- no two rows have the same word
abbrev pub HasOneRowEach : List Row → Type 0
HasOneRowEach rows = IsDistinct bytes_eq (map (λ r. r.word) rows)

abbrev pub EqualListsHaveNoChanges : Type 0
EqualListsHaveNoChanges = (rows : List Row) → HasOneRowEach rows → changes_of rows rows ≡ []

abbrev pub NoClassIsSplitAndRenamed : Type 0
NoClassIsSplitAndRenamed = (new : List Class) (c : Class) → (class_split c c.members ≡ None) ⊎ (class_renaming new c c.members ≡ None)

-- the change, seen from the second list to the first
abbrev pub other_way : Change → Change
other_way (Added w) = Removed w
other_way (Removed w) = Added w
other_way (Changed w o n) = Changed w n o
other_way (Split s ns) = Merged s ns
other_way (Merged s os) = Split s os
other_way (Renamed o n) = Renamed n o

-- If the lists are exchanged, each change becomes the other way round: some change of the lists has a property exactly if some
-- change of the exchanged lists has it the other way round.
abbrev pub ExchangedListsTurnChanges : Type 0
ExchangedListsTurnChanges =
    (before after : List Row) → HasOneRowEach before → HasOneRowEach after → (test : Change → Bool)
    → list_any test (changes_of before after) ≡ list_any (λ c. test (other_way c)) (changes_of after before)
