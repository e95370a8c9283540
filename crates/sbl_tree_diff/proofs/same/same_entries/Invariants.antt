use Rattle.std.proofs.Common.{◌≡◌, drop, map}
use Rattle.std.specs.Cmp.Lexicographic.{pointwise}
use Rattle.sbl_ast.specs.View.{view_entry}
use Rattle.sbl_semantics.specs.Same.{same_entry}
use Rattle.sbl_tree_diff.proofs.same.same_entries.Given as goal

abbrev pub invariant-loop-first : goal.invariant-loop-first
invariant-loop-first l = pointwise same_entry (map view_entry (drop l.first-index l.one.items)) (map view_entry l.others) ≡ pointwise same_entry (map view_entry l.one.items) (map view_entry l.other.items)
