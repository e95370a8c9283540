use Rattle.std.proofs.Common.{◌≡◌, drop, map}
use Rattle.sbl_ast.specs.View.{view_term}
use Rattle.sbl_resolver.specs.OccurrenceView.{noted_terms, view_occurrences}
use Rattle.sbl_resolver.proofs.sofar.SoFar.note_terms.Given as goal

abbrev pub invariant-loop-term : goal.invariant-loop-term
invariant-loop-term l =
    noted_terms (map view_term (drop l.term-index l.terms.items)) l.site (view_occurrences l.self) ≡ noted_terms (map view_term l.terms.items) l.site (view_occurrences l.initial.self)
