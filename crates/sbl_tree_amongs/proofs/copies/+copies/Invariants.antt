use Rattle.std.proofs.Common.{◌≡◌, ◌++◌, drop, map}
use Rattle.sbl_ast.specs.View.{view_row}
use Rattle.sbl_ast.specs.inside.ViewParts.{view_group, view_next_command}
use Rattle.sbl_tree_amongs.proofs.copies.+copies.Given as goal

abbrev pub invariant-copy_rows-loop-row : goal.invariant-copy_rows-loop-row
invariant-copy_rows-loop-row l = map view_row l.copies.items ++ map view_row (drop l.row-index l.rows.items) ≡ map view_row l.rows.items

abbrev pub invariant-copy_groups-loop-group : goal.invariant-copy_groups-loop-group
invariant-copy_groups-loop-group l = map view_group l.copies.items ++ map view_group (drop l.group-index l.groups.items) ≡ map view_group l.groups.items

abbrev pub invariant-copy_others-loop-other : goal.invariant-copy_others-loop-other
invariant-copy_others-loop-other l = map view_next_command l.copies.items ++ map view_next_command (drop l.other-index l.others.items) ≡ map view_next_command l.others.items
