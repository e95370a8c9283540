use Rattle.sbl_rows.proofs.SetFacts.{text_inserted}
use Rattle.sbl_rows.proofs.family_rows.push_new.Goals as goal

pub returns-in_ok-push-clause-seen : goal.returns-in_ok-push-clause-seen
returns-in_ok-push-clause-seen c = λ q. text_inserted c.args.seen.now c.insert.new.self c.args.pair.now.stem q c.in_ok-insert.ensures.updates
