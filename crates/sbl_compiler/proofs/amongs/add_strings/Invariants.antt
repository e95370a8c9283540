use Rattle.std.proofs.Common.{◌≡◌, drop, map}
use Rattle.sbl_ast.specs.View.{view_entry}
use Rattle.sbl_compiler.specs.NumberedAmongs.{strings_in}
use Rattle.sbl_program.specs.FoundView.{texts}
use Rattle.sbl_compiler.proofs.amongs.add_strings.Given as goal

abbrev pub invariant-loop-entry : goal.invariant-loop-entry
invariant-loop-entry l = strings_in (map view_entry (drop l.entry-index l.entries.items)) (texts l.strings.items) ≡ strings_in (map view_entry l.entries.items) (texts l.initial.strings.items)
