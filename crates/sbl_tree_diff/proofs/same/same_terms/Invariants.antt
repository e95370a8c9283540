use Rattle.std.proofs.Common.{◌≡◌, drop, map}
use Rattle.std.specs.Cmp.Lexicographic.{pointwise}
use Rattle.sbl_ast.specs.View.{view_term}
use Rattle.sbl_semantics.specs.Same.{same_term}
use Rattle.sbl_tree_diff.proofs.same.same_terms.Given as goal

abbrev pub invariant-loop-first : goal.invariant-loop-first
invariant-loop-first l = pointwise same_term (map view_term (drop l.first-index l.one.items)) (map view_term l.others) ≡ pointwise same_term (map view_term l.one.items) (map view_term l.other.items)
