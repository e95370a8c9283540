use Rattle.std.proofs.Common.{◌≡◌, ◌-◌, List, drop, map}
use Rattle.sbl_ast.specs.Counts.{count_in_rows, count_in_others, count_in_groups}
use Rattle.sbl_tree_amongs.specs.Amongs.{put_in_rows, put_in_others, put_in_groups}
use Rattle.sbl_ast.specs.Tree as trees
use Rattle.sbl_ast.specs.View.{view_among, view_row}
use Rattle.sbl_ast.specs.inside.ViewParts.{view_next_command, view_group, view_rows, view_others, view_groups}
use Rattle.sbl_tree_amongs.proofs.Putting.{then_rows, then_others, then_groups}
use Rattle.sbl_tree_amongs.proofs.replacing.Replacement.+put_among.Given as goal

abbrev pub invariant-put_in_rows-loop-row : goal.invariant-put_in_rows-loop-row
invariant-put_in_rows-loop-row l = record {
  put : then_rows (map view_row l.copies.items) (put_in_rows (view_rows (drop l.row-index l.rows.items)) l.rest (view_among l.self.among.now)) ≡ put_in_rows (view_rows l.rows.items) l.at (view_among l.self.among.now);
  rest : l.rest - count_in_rows (view_rows (drop l.row-index l.rows.items)) ≡ l.at - count_in_rows (view_rows l.rows.items);
}

abbrev pub invariant-put_after-loop-joined : goal.invariant-put_after-loop-joined
invariant-put_after-loop-joined l = record {
  put : then_others (map view_next_command l.copies.items) (put_in_others (view_others (drop l.joined-index l.others.items)) l.rest (view_among l.self.among.now)) ≡ put_in_others (view_others l.others.items) l.at (view_among l.self.among.now);
  rest : l.rest - count_in_others (view_others (drop l.joined-index l.others.items)) ≡ l.at - count_in_others (view_others l.others.items);
}

abbrev pub invariant-put_in_groups-loop-group : goal.invariant-put_in_groups-loop-group
invariant-put_in_groups-loop-group l = record {
  put : (bare : List trees.Entry) → then_groups (map view_group l.copies.items) (put_in_groups (view_groups (drop l.group-index l.groups.items) bare) l.rest (view_among l.self.among.now)) ≡ put_in_groups (view_groups l.groups.items bare) l.at (view_among l.self.among.now);
  rest : (bare : List trees.Entry) → l.rest - count_in_groups (view_groups (drop l.group-index l.groups.items) bare) ≡ l.at - count_in_groups (view_groups l.groups.items bare);
}
