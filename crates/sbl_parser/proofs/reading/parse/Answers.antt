use Rattle.sbl_ast.specs.View.{view_items}
use Rattle.sbl_ast.specs.Texts.{script}
use Rattle.sbl_parser.proofs.Lexed.{read_lexed}
use Rattle.sbl_parser.proofs.Whole.{fault_of}
use Rattle.sbl_parser.proofs.reading.parse.Goals as goal

pub returns-in-Err-clause-fault : goal.returns-in-Err-clause-fault
returns-in-Err-clause-fault c = rw c.fault_at_offset.ensures (fault_of script c.args.tokens.now c.args.end c.in-Err.error c.in-Err.ensures.fault)

pub returns-in-Ok-clause-read : goal.returns-in-Ok-clause-read
returns-in-Ok-clause-read c = read_lexed script c.args.tokens.now (view_items c.in-Ok.items.items) c.in-Ok.ensures.read
