use Rattle.std.proofs.Common.{◌≡◌, drop, List}
use Rattle.sbl_ast.specs.Tree as trees
use Rattle.sbl_ast.specs.inside.ViewParts.{view_rows, view_others, view_groups}
use Rattle.sbl_resolver.specs.Occurrences.{noted_rows, noted_others, noted_groups}
use Rattle.sbl_resolver.specs.OccurrenceView.{view_occurrences}
use Rattle.sbl_resolver.proofs.sofar.SoFar.+commands.Given as goal

abbrev pub invariant-note_rows-loop-row : goal.invariant-note_rows-loop-row
invariant-note_rows-loop-row l =
    noted_rows (view_rows (drop l.row-index l.rows.items)) l.site (view_occurrences l.self) ≡ noted_rows (view_rows l.rows.items) l.site (view_occurrences l.initial.self)

abbrev pub invariant-note_others-loop-joined : goal.invariant-note_others-loop-joined
invariant-note_others-loop-joined l =
    noted_others (view_others (drop l.joined-index l.others.items)) l.site (view_occurrences l.self) ≡ noted_others (view_others l.others.items) l.site (view_occurrences l.initial.self)

abbrev pub invariant-note_groups-loop-group : goal.invariant-note_groups-loop-group
invariant-note_groups-loop-group l =
    (bare : List trees.Entry) →
    noted_groups (view_groups (drop l.group-index l.groups.items) bare) l.number l.site (view_occurrences l.self) ≡ noted_groups (view_groups l.groups.items bare) l.number l.site (view_occurrences l.initial.self)
