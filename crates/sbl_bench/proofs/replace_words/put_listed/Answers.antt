use Rattle.sbl_rows.proofs.SetFacts.{text_inserted}
use Rattle.sbl_bench.proofs.replace_words.put_listed.Goals as goal

pub returns-clause-seen : goal.returns-clause-seen
returns-clause-seen c = λ q. text_inserted c.args.seen.now c.insert.new.self c.args.word q c.in_ok-insert.ensures.updates
