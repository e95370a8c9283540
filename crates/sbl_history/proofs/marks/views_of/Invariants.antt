use Rattle.std.proofs.Common.{◌≡◌, map, take}
use Rattle.sbl_rows.specs.Rows.{view_row}
use Rattle.sbl_history.specs.Desks.{view_marked}
use Rattle.sbl_history.proofs.marks.views_of.Given as goal

abbrev pub invariant-loop-row : goal.invariant-loop-row
invariant-loop-row l = map view_row l.rows.items ≡ map view_marked (take l.row-index l.marked)
