use Rattle.std.proofs.Common.{◌≡◌, drop}
use Rattle.sbl_ast.specs.inside.ViewParts.{view_sums, view_scales}
use Rattle.sbl_resolver.specs.OccurrenceView.{noted_sums, noted_scales, view_occurrences}
use Rattle.sbl_resolver.proofs.sofar.SoFar.+arithmetic.Given as goal

abbrev pub invariant-note_scales-loop-scaled : goal.invariant-note_scales-loop-scaled
invariant-note_scales-loop-scaled l =
    noted_scales (view_scales (drop l.scaled-index l.others.items)) l.site (view_occurrences l.self) ≡ noted_scales (view_scales l.others.items) l.site (view_occurrences l.initial.self)

abbrev pub invariant-note_sums-loop-added : goal.invariant-note_sums-loop-added
invariant-note_sums-loop-added l =
    noted_sums (view_sums (drop l.added-index l.others.items)) l.site (view_occurrences l.self) ≡ noted_sums (view_sums l.others.items) l.site (view_occurrences l.initial.self)
