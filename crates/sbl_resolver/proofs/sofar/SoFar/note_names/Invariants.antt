use Rattle.std.proofs.Common.{◌≡◌, drop, map, string_bytes}
use Rattle.sbl_resolver.specs.OccurrenceView.{noted_names, view_occurrences}
use Rattle.sbl_resolver.proofs.sofar.SoFar.note_names.Given as goal

abbrev pub invariant-loop-name : goal.invariant-loop-name
invariant-loop-name l =
    noted_names l.kind (map string_bytes (drop l.name-index l.names.items)) l.site (view_occurrences l.self) ≡ noted_names l.kind (map string_bytes l.names.items) l.site (view_occurrences l.initial.self)
