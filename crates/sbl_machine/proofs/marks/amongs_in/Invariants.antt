use Rattle.std.proofs.Common.{◌≡◌, ℕ, List, [], drop, map}
use Rattle.sbl_machine.specs.AmongList.{numbers_of}
use Rattle.sbl_machine.specs.Marking.{amongs_after}
use Rattle.sbl_semantics.specs.TouchedItems.{item_of}
use Rattle.sbl_machine.proofs.marks.amongs_in.Given as goal

-- the numbers so far, and those of the items still to come
abbrev pub invariant-loop-item : goal.invariant-loop-item
invariant-loop-item l = (n : List ℕ) → amongs_after n (map item_of (drop l.item-index l.items)) (numbers_of l.amongs n) ≡ amongs_after n (map item_of l.items) []
