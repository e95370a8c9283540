use Rattle.std.proofs.Common.{[], ap, ◌∙◌}
use Rattle.std.specs.Prelude.{slice_index_or}
use Rattle.sbl_machine.specs.MachineOf.{IsMachineOf}
use Rattle.sbl_semantics.specs.TouchedItems.{Names'}
use Rattle.sbl_machine.proofs.machine.Machine.routine_name.Goals as goal

pub returns : goal.returns
unfolding IsMachineOf
returns g c script h =
    c.routine_at.ensures ∙ ap (λ (names : Names'). slice_index_or names.routines c.args.number []) h.1
