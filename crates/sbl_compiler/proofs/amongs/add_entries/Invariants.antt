use Rattle.std.proofs.Common.{◌≡◌, drop, map}
use Rattle.sbl_ast.specs.View.{view_entry}
use Rattle.sbl_compiler.specs.NumberedAmongs.{entries_in}
use Rattle.sbl_compiler.specs.NumberedView.{view_names}
use Rattle.sbl_compiler.proofs.amongs.add_entries.Given as goal

abbrev pub invariant-loop-entry : goal.invariant-loop-entry
invariant-loop-entry l = entries_in (view_names l.names) l.group (map view_entry (drop l.entry-index l.more.items)) l.entries.items ≡ entries_in (view_names l.names) l.group (map view_entry l.more.items) l.initial.entries.items
