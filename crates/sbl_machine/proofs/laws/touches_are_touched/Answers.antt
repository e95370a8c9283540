use Rattle.std.proofs.Common.{map}
use Rattle.sbl_semantics.specs.Outcome.{touches_of}
use Rattle.sbl_semantics.specs.TouchedItems.{item_of_touch, names_of, same_item, touched_items, touches}
use Rattle.sbl_machine.proofs.TouchedOrder.{any_ordered}
use Rattle.sbl_machine.proofs.TouchedRise.{touched_rise}
use Rattle.sbl_machine.proofs.laws.touches_are_touched.Goals as goal

pub returns-clause-touched : goal.returns-clause-touched
unfolding touched_items touches
returns-clause-touched c x script word limit =
    any_ordered (same_item x) (map (item_of_touch (names_of script)) (touches_of script word limit))

pub returns-clause-rise : goal.returns-clause-rise
returns-clause-rise c = touched_rise
