use Rattle.std.proofs.Common.{rules}
use Rattle.sbl_semantics.specs.Fitting.{read_as}
use Rattle.sbl_program.proofs.Keys.{by_keys}
use Rattle.sbl_program.proofs.linked.links.is_row_after.Goals as goal

pub returns-then-row_key-key : goal.returns-then-row_key-key
returns-then-row_key-key c = by_keys (read_as c.args.direction c.args.part.now) c.args.row.now.0.items c.args.key c.args.row_key c.requires.own c.requires.keyed (search rules)
