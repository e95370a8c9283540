use Rattle.std.proofs.Common.{◌≡◌, ◌-◌, List, drop}
use Rattle.sbl_ast.specs.Counts.{count_in_rows, count_in_others, count_in_groups}
use Rattle.sbl_ast.specs.Tree as trees
use Rattle.sbl_ast.specs.inside.ViewParts.{view_rows, view_others, view_groups}
use Rattle.sbl_tree_amongs.proofs.counting.+less.Given as goal

abbrev pub invariant-less_groups-loop-group : goal.invariant-less_groups-loop-group
invariant-less_groups-loop-group l = (bare : List trees.Entry) → l.left - count_in_groups (view_groups (drop l.group-index l.groups.items) bare) ≡ l.number - count_in_groups (view_groups l.groups.items bare)

abbrev pub invariant-less_others-loop-joined : goal.invariant-less_others-loop-joined
invariant-less_others-loop-joined l = l.left - count_in_others (view_others (drop l.joined-index l.others.items)) ≡ l.number - count_in_others (view_others l.others.items)

abbrev pub invariant-less_rows-loop-row : goal.invariant-less_rows-loop-row
invariant-less_rows-loop-row l = l.left - count_in_rows (view_rows (drop l.row-index l.rows.items)) ≡ l.number - count_in_rows (view_rows l.rows.items)
