use Rattle.std.proofs.Common.{◌≡◌, ◌++◌, codes, map, reverse}
use Rattle.sbl_history.specs.Desks.{view_edit}
use Rattle.sbl_history.specs.Listing.{edit_rows}
use Rattle.sbl_io.specs.Records.{records_text}
use Rattle.sbl_history.proofs.listing.push_undone.Given as goal

-- the rows so far, and those of the edits still to come
abbrev pub invariant-loop-edit : goal.invariant-loop-edit
invariant-loop-edit l =
    l.out.items ++ records_text (edit_rows (codes "undone") (reverse (map view_edit l.edit-iterator.iter.rest.now)))
    ≡ l.fn.out.items ++ records_text (edit_rows (codes "undone") (reverse (map view_edit l.fn.edits)))
