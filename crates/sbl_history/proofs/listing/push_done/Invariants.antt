use Rattle.std.proofs.Common.{◌≡◌, ◌++◌, codes, map, take}
use Rattle.sbl_history.specs.Desks.{view_edit}
use Rattle.sbl_history.specs.Listing.{edit_rows}
use Rattle.sbl_io.specs.Records.{records_text}
use Rattle.sbl_history.proofs.listing.push_done.Given as goal

abbrev pub invariant-loop-edit : goal.invariant-loop-edit
invariant-loop-edit l = l.out.items ≡ l.fn.out.items ++ records_text (edit_rows (codes "done") (map view_edit (take l.edit-index l.edits)))
