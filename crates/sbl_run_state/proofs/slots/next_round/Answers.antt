use Rattle.std.proofs.Common.{arith, ◌+◌, ap, ◌∙◌}
use Rattle.sbl_run_state.specs.Slots.{slot_values}
use Rattle.sbl_run_state.proofs.SlotValues.{all_missing, later_round, nothing}
use Rattle.sbl_run_state.proofs.slots.next_round.Goals as goal

pub returns-then-round-eq4294967295-clause-missing : goal.returns-then-round-eq4294967295-clause-missing
returns-then-round-eq4294967295-clause-missing g c count = ap (slot_values 1 count) c.clear.ensures.items ∙ nothing 1 count

pub returns-clause-up_to : goal.returns-clause-up_to
returns-clause-up_to g c = later_round c.args.round (c.args.round + 1) c.args.slots.now.items (omega arith) c.requires

pub returns-clause-missing : goal.returns-clause-missing
returns-clause-missing g c count = all_missing c.args.round (c.args.round + 1) count c.args.slots.now.items (omega arith) c.requires
