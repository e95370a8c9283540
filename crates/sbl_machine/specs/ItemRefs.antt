-- Items with borrowed names.
use Rattle.std.specs.Prelude.{List, map}
use Rattle.std.specs.BTreeSet.{BTreeSet}
use Rattle.sbl_ast.specs.NamedParts.{Part', Routine, Among, Grouping}
use Rattle.sbl_machine.specs.declared.item_ref.ItemRef.{ItemRef}
use Rattle.sbl_machine.specs.declared.item_ref.ItemRef.TheVariants as code

-- the item that the code's value represents
abbrev pub item_of_ref : ItemRef → Part'
item_of_ref (code.Routine name) = Routine name.now
item_of_ref (code.Among name k) = Among name.now k
item_of_ref (code.Grouping name) = Grouping name.now

-- the items that the code's set holds
abbrev pub items_of_refs : BTreeSet ItemRef → List Part'
items_of_refs set = map item_of_ref set.keys
