use Rattle.std.proofs.Common.{sym, ◌∙◌}
use Rattle.sbl_resolver.proofs.Keeping.{kept_first}
use Rattle.sbl_resolver.proofs.checks.keep_first.Goals as goal

pub returns-in_ok-insert : goal.returns-in_ok-insert
returns-in_ok-insert g c = kept_first c.args.map.now c.insert.new.self c.args.name.now c.args.value (sym c.contains_key.ensures ∙ c.if-not-contains_key.true) c.in_ok-insert.ensures.updates
