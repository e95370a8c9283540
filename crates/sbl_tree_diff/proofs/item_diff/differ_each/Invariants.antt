use Rattle.std.proofs.Common.{◌≡◌, Some, drop, map}
use Rattle.sbl_semantics.specs.DiffersByParts.{join, differ_each}
use Rattle.sbl_semantics.specs.TouchedItems.{item_of}
use Rattle.sbl_tree_diff.proofs.item_diff.differ_each.Given as goal

abbrev pub invariant-loop-first : goal.invariant-loop-first
invariant-loop-first g l = join (Some (map item_of l.items.items)) (differ_each g.T.Differ.differs (drop l.first-index l.one) l.others) ≡ differ_each g.T.Differ.differs l.one l.other
