use Rattle.std.proofs.Common.{◌≡◌, ◌++◌, drop, map}
use Rattle.sbl_ast.specs.View.{view_term}
use Rattle.sbl_tree_amongs.proofs.copies.copy_terms.Given as goal

abbrev pub invariant-loop-other : goal.invariant-loop-other
invariant-loop-other l = map view_term l.copies.items ++ map view_term (drop l.other-index l.terms.items) ≡ map view_term l.terms.items
