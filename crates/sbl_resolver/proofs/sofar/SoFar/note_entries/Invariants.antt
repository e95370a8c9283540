use Rattle.std.proofs.Common.{◌≡◌, drop, map}
use Rattle.sbl_ast.specs.View.{view_entry}
use Rattle.sbl_resolver.specs.Occurrences.{noted_entries}
use Rattle.sbl_resolver.specs.OccurrenceView.{view_occurrences}
use Rattle.sbl_resolver.proofs.sofar.SoFar.note_entries.Given as goal

abbrev pub invariant-loop-entry : goal.invariant-loop-entry
invariant-loop-entry l =
    noted_entries (map view_entry (drop l.entry-index l.entries)) l.number l.site (view_occurrences l.self) ≡ noted_entries (map view_entry l.entries) l.number l.site (view_occurrences l.initial.self)
