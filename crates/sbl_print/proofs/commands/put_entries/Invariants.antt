use Rattle.std.proofs.Common.{◌≡◌, ◌++◌, List, drop, map, string_bytes}
use Rattle.sbl_ast.specs.Terminal.{Terminal}
use Rattle.sbl_ast.specs.Spelled.{spelled_entries}
use Rattle.sbl_ast.specs.View.{view_entry}
use Rattle.sbl_print.specs.Adding.{more}
use Rattle.sbl_print.proofs.commands.put_entries.Given as goal

abbrev pub invariant-loop-entry : goal.invariant-loop-entry
invariant-loop-entry l =
    (rest : List Terminal) → string_bytes l.out ++ more (spelled_entries (map view_entry (drop l.entry-index l.entries.items)) rest) ≡ string_bytes l.initial.out ++ more (spelled_entries (map view_entry l.entries.items) rest)
