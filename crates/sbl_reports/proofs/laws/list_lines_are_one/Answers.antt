use Rattle.sbl_reports.proofs.WordListFacts.{list_lines-one}
use Rattle.sbl_reports.proofs.laws.list_lines_are_one.Goals as goal

pub returns : goal.returns
returns c = list_lines-one
