-- What the code's values stand for that say what a run can use.
use Rattle.std.specs.Prelude.{ℕ, Bool, true, List, map}
use Rattle.sbl_machine.specs.ItemRefs.{item_of_ref}
use Rattle.sbl_machine.specs.Marks.{has_item}
use Rattle.sbl_semantics.specs.TouchedItems.{names_of}
use Rattle.sbl_ast.specs.NamedParts.{Part'}
use Rattle.sbl_ast.specs.Source.{Source}
use Rattle.sbl_uses.specs.Used.{Entry, Usable, Whole}
use Rattle.sbl_uses.specs.declared.usables.Usable as declared
use Rattle.sbl_uses.specs.declared.usables.Usable.TheVariants as code

abbrev pub view_usable : declared.Usable → Usable
view_usable (code.Whole item) = Whole (item_of_ref item)
view_usable (code.Entry among string) = Entry (item_of_ref among, string.now)

abbrev pub view_usables : List declared.Usable → List Usable
view_usables usables = map view_usable usables

-- strings of an among
abbrev pub entries_of : Part' → List (List ℕ) → List Usable
entries_of x strings = map (λ q. Entry (x, q)) strings

-- the script defines the routine or the grouping, if it is that of an item
abbrev pub is_defined : Source → Usable → Bool
is_defined script (Whole x) = has_item (names_of script) x
is_defined script (Entry t) = true
