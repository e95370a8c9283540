use Rattle.std.proofs.Common.{rules}
use Rattle.sbl_machine.proofs.Order.{map_insert_key}
use Rattle.sbl_machine.proofs.naming.add_item.Goals as goal

pub returns : goal.returns
returns c = search (map_insert_key, rules)
