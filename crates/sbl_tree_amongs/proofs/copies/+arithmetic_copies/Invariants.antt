use Rattle.std.proofs.Common.{◌≡◌, ◌++◌, drop, map}
use Rattle.sbl_ast.specs.inside.ViewParts.{view_next_product, view_next_factor}
use Rattle.sbl_tree_amongs.proofs.copies.+arithmetic_copies.Given as goal

abbrev pub invariant-copy_scales-loop-other : goal.invariant-copy_scales-loop-other
invariant-copy_scales-loop-other l = map view_next_factor l.copies.items ++ map view_next_factor (drop l.other-index l.others.items) ≡ map view_next_factor l.others.items

abbrev pub invariant-copy_sums-loop-other : goal.invariant-copy_sums-loop-other
invariant-copy_sums-loop-other l = map view_next_product l.copies.items ++ map view_next_product (drop l.other-index l.others.items) ≡ map view_next_product l.others.items
