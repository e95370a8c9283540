use Rattle.std.proofs.Common.{ap, ◌∙◌}
use Rattle.sbl_semantics.specs.TouchedItems.{items_of, names_of, touched_items}
use Rattle.sbl_machine.proofs.machine.Machine.run.Goals as goal

pub returns-clause-touched : goal.returns-clause-touched
unfolding touched_items
returns-clause-touched g c script h =
    c.in_ok-touched.ensures script h
    ∙ ap (items_of (names_of script)) (c.as_slice.ensures.value ∙ c.in_ok-outcome.ensures.touches script h)
