use Rattle.sbl_bench.specs.KeptRuns.{contents_of}
use Rattle.sbl_sessions.proofs.BreakFacts.{limit_answer}
use Rattle.sbl_sessions.proofs.serving.limit_or_break.Goals as goal

pub returns : goal.returns
returns g c =
    limit_answer c.set_limit_or_break.result (contents_of c.args.bench.now) (contents_of c.set_limit_or_break.new.self) c.args.number _ _ c.edit_text.result
    c.set_limit_or_break.ensures.untold c.set_limit_or_break.ensures.told c.set_limit_or_break.ensures.edits c.edit_text.ensures
