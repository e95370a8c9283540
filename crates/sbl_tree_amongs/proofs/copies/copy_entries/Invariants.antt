use Rattle.std.proofs.Common.{◌≡◌, ◌++◌, drop, map}
use Rattle.sbl_ast.specs.View.{view_entry}
use Rattle.sbl_tree_amongs.proofs.copies.copy_entries.Given as goal

abbrev pub invariant-loop-entry : goal.invariant-loop-entry
invariant-loop-entry l = map view_entry l.copies.items ++ map view_entry (drop l.entry-index l.entries.items) ≡ map view_entry l.entries.items
