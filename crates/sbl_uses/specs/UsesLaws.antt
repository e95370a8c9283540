-- Laws of what words use.
use Rattle.std.specs.Prelude.{◌≡◌, ℕ, Bool, true, List, [], ◌∷◌, ◌++◌, length, nat_eq, if◌then◌else◌}
use Rattle.std.specs.List.{flat_map, list_any}
use Rattle.sbl_rows.specs.Setting.{Setting}
use Rattle.sbl_machine.specs.BuiltFrom.{is_affected_by}
use Rattle.sbl_semantics.specs.TouchedItems.{touched_items}
use Rattle.sbl_ast.specs.NamedParts.{Part'}
use Rattle.sbl_uses.specs.Counts.{usable_row}
use Rattle.sbl_uses.specs.Parts.{Part, parts_of}
use Rattle.sbl_uses.specs.Unused.{unused_rows}
use Rattle.sbl_uses.specs.Used.{Usable, Whole, Entry, number_using, rows_using, uses}

-- The number that `counts` has of a part is that of the rows that `uses` has of it.
abbrev pub NumbersAreOfRows : Type 0
NumbersAreOfRows = (s : Setting) (words : List (List ℕ)) (u : Usable) → number_using s words u ≡ length (rows_using s words u)

-- the row of a part, if its number is 0
abbrev pub row_if_unused : Setting → List (List ℕ) → Usable → List (List (List ℕ))
row_if_unused s words u = if nat_eq (number_using s words u) 0 then usable_row u ∷ [] else []

-- the rows of the strings of an among whose number is 0, if that of the among is not
abbrev pub rows_of_strings : Setting → List (List ℕ) → Part → List (List (List ℕ))
rows_of_strings s words p =
    if nat_eq (number_using s words (Whole p.0)) 0 then [] else flat_map (λ q. row_if_unused s words (Entry (p.0, q))) p.1

-- `unused` has the items whose number is 0, and then the strings whose number is 0 of the other amongs.
abbrev pub UnusedHaveNumberZero : Type 0
UnusedHaveNumberZero =
    (s : Setting) (words : List (List ℕ)) → unused_rows s words
    ≡ flat_map (λ p. row_if_unused s words (Whole p.0)) (parts_of s.script) ++ flat_map (rows_of_strings s words) (parts_of s.script)

-- A word uses an item exactly if `trace` has the item or, if that is a grouping, one that is built from it.
abbrev pub UsesAgreeWithTraces : Type 0
UsesAgreeWithTraces =
    (s : Setting) (word : List ℕ) (x : Part') → uses s word (Whole x) ≡ list_any (is_affected_by s.script x) (touched_items s.script word s.limit)
