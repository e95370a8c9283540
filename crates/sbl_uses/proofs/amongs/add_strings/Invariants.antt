use Rattle.std.proofs.Common.{◌≡◌, ◌++◌, drop, map}
use Rattle.sbl_ast.specs.View.{view_entry}
use Rattle.sbl_uses.specs.Parts.{string_of}
use Rattle.sbl_uses.specs.UnusedViews.{texts_of}
use Rattle.sbl_uses.proofs.amongs.add_strings.Given as goal

abbrev pub invariant-loop-entry : goal.invariant-loop-entry
invariant-loop-entry l = texts_of l.strings.items ++ map string_of (map view_entry (drop l.entry-index l.entries.items)) ≡ texts_of l.initial.strings.items ++ map string_of (map view_entry l.entries.items)
