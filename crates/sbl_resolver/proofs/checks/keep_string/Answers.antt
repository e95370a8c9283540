use Rattle.sbl_resolver.proofs.Keeping.{kept_string}
use Rattle.sbl_resolver.proofs.checks.keep_string.Goals as goal

pub returns : goal.returns
returns c = kept_string c.args.strings.now c.insert.new.self (c.args.item, c.args.among, c.args.text) c.in_ok-insert.ensures.updates
