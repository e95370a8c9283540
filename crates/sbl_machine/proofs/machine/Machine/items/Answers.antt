use Rattle.std.proofs.Common.{◌≡◌, IfOk, subst}
use Rattle.sbl_machine.specs.MachineOf.{IsMachineOf}
use Rattle.sbl_semantics.specs.TouchedItems.{items_in, items_of}
use Rattle.sbl_machine.proofs.machine.Machine.items.Goals as goal

pub returns : goal.returns
unfolding IsMachineOf
returns g c script h =
    subst (λ names. IfOk c.items_touched.result (λ set. items_in set ≡ items_of names c.args.touches.now)) h.1 c.items_touched.ensures
