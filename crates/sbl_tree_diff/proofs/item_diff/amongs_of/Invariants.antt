use Rattle.std.proofs.Common.{◌≡◌, map, take, string_bytes}
use Rattle.sbl_semantics.specs.TouchedItems.{item_of}
use Rattle.sbl_ast.specs.NamedParts.{Among}
use Rattle.sbl_tree_diff.proofs.item_diff.amongs_of.Given as goal

abbrev pub invariant-loop-number : goal.invariant-loop-number
invariant-loop-number l = map item_of l.items.items ≡ map (Among (string_bytes l.name)) (take l.number-index l.numbers.items)
