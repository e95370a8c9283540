use Rattle.std.proofs.Common.{◌≡◌, List, [], drop}
use Rattle.sbl_tree_amongs.specs.Amongs.{AmongContents, nth_held, amongs_of_rows, amongs_of_others, amongs_of_groups}
use Rattle.sbl_ast.specs.Places.{placed_rows, placed_others, placed_groups, AreShallow}
use Rattle.sbl_ast.specs.Tree as trees
use Rattle.sbl_ast.specs.inside.ViewParts.{view_rows, view_others, view_groups}
use Rattle.sbl_tree_amongs.proofs.finding.+find.Given as goal

abbrev pub invariant-in_groups-loop-group : goal.invariant-in_groups-loop-group
invariant-in_groups-loop-group l = AreShallow (placed_groups (view_groups l.groups.items []) l.depth []) → AreShallow (placed_groups (view_groups (drop l.group-index l.groups.items) []) l.depth []) × ((bare : List trees.Entry) (rest : List AmongContents) → nth_held l.following (amongs_of_groups (view_groups (drop l.group-index l.groups.items) bare) l.depth rest) ≡ nth_held l.number (amongs_of_groups (view_groups l.groups.items bare) l.depth rest))

abbrev pub invariant-in_others-loop-joined : goal.invariant-in_others-loop-joined
invariant-in_others-loop-joined l = AreShallow (placed_others (view_others l.others.items) l.depth []) → AreShallow (placed_others (view_others (drop l.joined-index l.others.items)) l.depth []) × ((rest : List AmongContents) → nth_held l.following (amongs_of_others (view_others (drop l.joined-index l.others.items)) l.depth rest) ≡ nth_held l.number (amongs_of_others (view_others l.others.items) l.depth rest))

abbrev pub invariant-in_rows-loop-row : goal.invariant-in_rows-loop-row
invariant-in_rows-loop-row l = AreShallow (placed_rows (view_rows l.rows.items) l.depth []) → AreShallow (placed_rows (view_rows (drop l.row-index l.rows.items)) l.depth []) × ((rest : List AmongContents) → nth_held l.following (amongs_of_rows (view_rows (drop l.row-index l.rows.items)) l.depth rest) ≡ nth_held l.number (amongs_of_rows (view_rows l.rows.items) l.depth rest))
