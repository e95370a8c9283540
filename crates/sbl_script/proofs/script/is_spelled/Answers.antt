use Rattle.sbl_script.specs.ParsedScript.{source_of}
use Rattle.sbl_script.proofs.Spelled.{ends}
use Rattle.sbl_script.proofs.script.is_spelled.Goals as goal

pub returns-clause-ends : goal.returns-clause-ends
returns-clause-ends c = ends (source_of c.args.script.now).items
