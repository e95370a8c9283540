use Rattle.std.proofs.Common.{rules}
use Rattle.sbl_machine.proofs.Order.{map_insert_ref}
use Rattle.sbl_machine.proofs.naming.add_ref.Goals as goal

pub returns-in-Ok : goal.returns-in-Ok
returns-in-Ok c = search (map_insert_ref, rules)
