use Rattle.std.proofs.Common.{◌≡◌, ◌++◌, drop, map}
use Rattle.sbl_batch.specs.Compare.{item_row}
use Rattle.sbl_batch.specs.Comparing.{fields_in}
use Rattle.sbl_semantics.specs.TouchedItems.{item_of}
use Rattle.sbl_batch.proofs.comparison_rows.push_items.Given as goal

-- the rows so far, and those of the items still to come
abbrev pub invariant-loop-item : goal.invariant-loop-item
invariant-loop-item l =
    map fields_in l.rows.items ++ map item_row (map item_of (drop l.item-index l.items))
    ≡ map fields_in l.initial.rows.items ++ map item_row (map item_of l.items)
