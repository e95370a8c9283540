use Rattle.std.proofs.Common.{◌≡◌, drop}
use Rattle.sbl_ast.specs.inside.ViewParts.{view_scales, view_sums}
use Rattle.sbl_semantics.specs.Same.{same_sums, same_scales}
use Rattle.sbl_tree_diff.proofs.same.+same_arithmetic.Given as goal

abbrev pub invariant-same_sums-loop-first : goal.invariant-same_sums-loop-first
invariant-same_sums-loop-first l = same_sums (view_sums (drop l.first-index l.one.items)) (view_sums l.others) ≡ same_sums (view_sums l.one.items) (view_sums l.other.items)

abbrev pub invariant-same_scales-loop-first : goal.invariant-same_scales-loop-first
invariant-same_scales-loop-first l = same_scales (view_scales (drop l.first-index l.one.items)) (view_scales l.others) ≡ same_scales (view_scales l.one.items) (view_scales l.other.items)
