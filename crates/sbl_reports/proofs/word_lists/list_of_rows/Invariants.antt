use Rattle.std.proofs.Common.{◌≡◌, take}
use Rattle.sbl_rows.specs.Rows.{view_rows}
use Rattle.sbl_reports.specs.WordLists.{list_text}
use Rattle.sbl_reports.proofs.word_lists.list_of_rows.Given as goal

abbrev pub invariant-loop-row : goal.invariant-loop-row
invariant-loop-row l = l.text.items ≡ list_text l.form (view_rows (take l.row-index l.rows))
