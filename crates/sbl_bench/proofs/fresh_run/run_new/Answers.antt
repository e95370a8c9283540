use Rattle.sbl_rows.specs.Setting.{under}
use Rattle.sbl_bench.proofs.Listing.{kept_fresh}
use Rattle.sbl_bench.proofs.fresh_run.run_new.Goals as goal

pub returns-in-Ok-clause-fresh : goal.returns-in-Ok-clause-fresh
returns-in-Ok-clause-fresh c s made =
    kept_fresh c.keep.result (under s c.args.limit) c.args.word.now c.in-Ok.traced c.keep.ensures.outcome c.keep.ensures.touches c.keep.ensures.used
    (record { outcome = c.in-Ok.ensures.outcome s made; touches = c.in-Ok.ensures.touches s made; used = c.in-Ok.ensures.used s made })
