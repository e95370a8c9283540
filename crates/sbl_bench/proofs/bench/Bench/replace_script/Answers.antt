use Rattle.sbl_bench.specs.Edits.{Whole}
use Rattle.sbl_bench.specs.KeptRuns.{contents_of}
use Rattle.sbl_bench.proofs.Breaking.{plain}
use Rattle.sbl_bench.proofs.bench.Bench.replace_script.Goals as goal

pub returns-clause-edits : goal.returns-clause-edits
returns-clause-edits c =
    plain c.replace_script_or_break.result (contents_of c.args.self.now) (contents_of c.replace_script_or_break.new.self) (Whole c.args.text.now) c.replace_script_or_break.ensures.told c.replace_script_or_break.ensures.edits
