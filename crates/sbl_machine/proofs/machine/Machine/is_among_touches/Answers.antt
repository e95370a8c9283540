use Rattle.std.proofs.Common.{ap, map, ◌∙◌}
use Rattle.std.specs.List.{list_any}
use Rattle.sbl_machine.specs.MachineOf.{IsMachineOf}
use Rattle.sbl_semantics.specs.TouchedItems.{item_of, item_of_touch, same_item}
use Rattle.sbl_machine.proofs.machine.Machine.is_among_touches.Goals as goal

pub returns : goal.returns
unfolding IsMachineOf
returns g c script h =
    c.is_touched.ensures ∙ ap (λ names. list_any (same_item (item_of c.args.item.now)) (map (item_of_touch names) c.args.touches.now)) h.1
