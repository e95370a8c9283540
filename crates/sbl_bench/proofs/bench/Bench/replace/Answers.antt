use Rattle.sbl_script.specs.Parts.{view_part}
use Rattle.sbl_bench.specs.Edits.{Replace}
use Rattle.sbl_bench.specs.KeptRuns.{contents_of}
use Rattle.sbl_bench.proofs.Breaking.{plain}
use Rattle.sbl_bench.proofs.bench.Bench.replace.Goals as goal

pub returns-clause-edits : goal.returns-clause-edits
returns-clause-edits c =
    plain c.replace_or_break.result (contents_of c.args.self.now) (contents_of c.replace_or_break.new.self) (Replace (view_part c.args.part) c.args.text.now) c.replace_or_break.ensures.told c.replace_or_break.ensures.edits
