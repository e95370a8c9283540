use Rattle.std.proofs.Common.{◌≡◌, drop, List}
use Rattle.sbl_ast.specs.Tree as trees
use Rattle.sbl_ast.specs.inside.ViewParts.{view_groups, view_others, view_rows}
use Rattle.sbl_compiler.specs.NumberedItems.{past_groups, past_others, past_rows}
use Rattle.sbl_compiler.specs.NumberedView.{view_place}
use Rattle.sbl_compiler.proofs.place.+passing.Given as goal

abbrev pub invariant-past_rows-loop-row : goal.invariant-past_rows-loop-row
invariant-past_rows-loop-row l = past_rows (view_rows (drop l.row-index l.rows.items)) (view_place l.amongs.items l.following) ≡ past_rows (view_rows l.rows.items) (view_place l.amongs.items l.initial.following)

abbrev pub invariant-past_others-loop-joined : goal.invariant-past_others-loop-joined
invariant-past_others-loop-joined l = past_others (view_others (drop l.joined-index l.others.items)) (view_place l.amongs.items l.following) ≡ past_others (view_others l.others.items) (view_place l.amongs.items l.initial.following)

abbrev pub invariant-past_groups-loop-group : goal.invariant-past_groups-loop-group
invariant-past_groups-loop-group l = (bare : List trees.Entry) → past_groups (view_groups (drop l.group-index l.groups.items) bare) (view_place l.amongs.items l.following) ≡ past_groups (view_groups l.groups.items bare) (view_place l.amongs.items l.initial.following)
