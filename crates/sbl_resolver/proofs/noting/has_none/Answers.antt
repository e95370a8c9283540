use Rattle.std.proofs.Common.{map}
use Rattle.sbl_ast.specs.View.{view_entry}
use Rattle.sbl_resolver.proofs.Noted.{has_groups}
use Rattle.sbl_resolver.proofs.noting.has_none.Goals as goal

pub returns-else-is_empty : goal.returns-else-is_empty
returns-else-is_empty c = has_groups c.args.groups.now (map view_entry c.args.bare.now) c.is_empty.result c.is_empty.ensures c.if-is_empty.false
