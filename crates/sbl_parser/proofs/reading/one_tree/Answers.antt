use Rattle.sbl_ast.specs.Texts.{script}
use Rattle.sbl_parser.proofs.OneTree.{trees_are_one}
use Rattle.sbl_parser.proofs.reading.one_tree.Goals as goal

pub returns-clause-script : goal.returns-clause-script
returns-clause-script c = trees_are_one script

pub returns-clause-text : goal.returns-clause-text
returns-clause-text c = trees_are_one
