use Rattle.std.proofs.Common.{◌≡◌, IfOk, subst}
use Rattle.sbl_machine.specs.MachineOf.{IsMachineOf}
use Rattle.sbl_machine.specs.ItemRefs.{items_of_refs}
use Rattle.sbl_semantics.specs.TouchedItems.{items_of}
use Rattle.sbl_machine.proofs.machine.Machine.item_refs.Goals as goal

pub returns : goal.returns
unfolding IsMachineOf
returns g c script h =
    subst (λ names. IfOk c.item_refs.result (λ set. items_of_refs set ≡ items_of names c.args.touches.now)) h.1 c.item_refs.ensures
