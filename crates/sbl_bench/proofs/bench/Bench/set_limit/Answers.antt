use Rattle.sbl_bench.specs.Edits.{Limit}
use Rattle.sbl_bench.specs.KeptRuns.{contents_of}
use Rattle.sbl_bench.proofs.Breaking.{plain}
use Rattle.sbl_bench.proofs.bench.Bench.set_limit.Goals as goal

pub returns-clause-edits : goal.returns-clause-edits
returns-clause-edits c =
    plain c.set_limit_or_break.result (contents_of c.args.self.now) (contents_of c.set_limit_or_break.new.self) (Limit c.args.number) c.set_limit_or_break.ensures.told c.set_limit_or_break.ensures.edits
