-- The items that a list of the code represents.
use Rattle.std.specs.Prelude.{List, map, Option}
use Rattle.std.specs.Option.{option_map}
use Rattle.std.specs.Global.{Vec}
use Rattle.sbl_semantics.specs.declared.item.Item.{Item}
use Rattle.sbl_semantics.specs.TouchedItems.{item_of}
use Rattle.sbl_ast.specs.NamedParts.{Part'}

abbrev pub items_in : Option (Vec Item) → Option (List Part')
items_in items = option_map (λ v. map item_of v.items) items
