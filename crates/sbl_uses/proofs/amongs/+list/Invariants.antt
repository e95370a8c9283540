use Rattle.std.proofs.Common.{◌≡◌, drop, List}
use Rattle.sbl_ast.specs.Tree as trees
use Rattle.sbl_ast.specs.inside.ViewParts.{view_groups, view_others, view_rows}
use Rattle.sbl_uses.specs.GatheredGroups.{gathered_groups, gathered_others, gathered_rows}
use Rattle.sbl_uses.specs.UnusedViews.{view_amongs}
use Rattle.sbl_uses.proofs.amongs.+list.Given as goal

abbrev pub invariant-add_rows-loop-row : goal.invariant-add_rows-loop-row
invariant-add_rows-loop-row l = gathered_rows (view_rows (drop l.row-index l.rows.items)) (view_amongs l.all.items) ≡ gathered_rows (view_rows l.rows.items) (view_amongs l.initial.all.items)

abbrev pub invariant-add_others-loop-joined : goal.invariant-add_others-loop-joined
invariant-add_others-loop-joined l = gathered_others (view_others (drop l.joined-index l.others.items)) (view_amongs l.all.items) ≡ gathered_others (view_others l.others.items) (view_amongs l.initial.all.items)

abbrev pub invariant-add_groups-loop-group : goal.invariant-add_groups-loop-group
invariant-add_groups-loop-group l = (bare : List trees.Entry) → gathered_groups (view_groups (drop l.group-index l.groups.items) bare) (view_amongs l.all.items) ≡ gathered_groups (view_groups l.groups.items bare) (view_amongs l.initial.all.items)
