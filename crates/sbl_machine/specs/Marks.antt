-- What an edit affects, by number.
use Rattle.std.specs.Prelude.{◌≡◌, ℕ, Bool, true, List}
use Rattle.std.specs.List.{list_all, list_any}
use Rattle.sbl_semantics.specs.Items.{is_member}
use Rattle.sbl_semantics.specs.declared.touch.Touch.{Touch}
use Rattle.sbl_semantics.specs.Touches.{same_touch}
use Rattle.sbl_script.specs.Edits.{IsEdited}
use Rattle.sbl_ast.specs.Source.{Source}
use Rattle.sbl_machine.specs.BuiltFrom.{affected_by}
use Rattle.sbl_semantics.specs.TouchedItems.{Names', item_of_touch, names_of}
use Rattle.sbl_ast.specs.NamedParts.{Part', Routine, Among, Grouping}

-- whether a script defines the routine or the grouping of an item
abbrev pub has_item : Names' → Part' → Bool
has_item names (Routine n) = is_member names.routines n
has_item names (Among n k) = is_member names.routines n
has_item names (Grouping n) = is_member names.groupings n

-- the script defines the routine or the grouping of each of these items
abbrev pub Defines : Source → List Part' → Type 0
Defines s xs = list_all (has_item (names_of s)) xs ≡ true

-- The marks of some items: a touch is one of them exactly if an edit of one of the items affects what it touches.
abbrev pub AreMarksOf : Source → List Part' → List Touch → Type 0
AreMarksOf s xs marks = (t : Touch) → list_any (same_touch t) marks ≡ affected_by s xs (item_of_touch (names_of s) t)

-- the script defines the routine or the grouping that an edit changes
abbrev pub EditedAreThere : Type 0
EditedAreThere = (s t : Source) (e : Part') (text : List ℕ) → IsEdited s e text t → has_item (names_of s) e ≡ true
