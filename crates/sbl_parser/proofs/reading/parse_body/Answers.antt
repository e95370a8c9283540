use Rattle.sbl_ast.specs.View.{view_row}
use Rattle.sbl_ast.specs.Texts.{body}
use Rattle.sbl_parser.proofs.Lexed.{read_lexed}
use Rattle.sbl_parser.proofs.Whole.{fault_of}
use Rattle.sbl_parser.proofs.reading.parse_body.Goals as goal

pub returns-in-Err-clause-fault : goal.returns-in-Err-clause-fault
returns-in-Err-clause-fault c = rw c.fault_at_offset.ensures (fault_of body c.args.tokens.now c.args.end c.in-Err.error c.in-Err.ensures.fault)

pub returns-in-Ok-clause-read : goal.returns-in-Ok-clause-read
returns-in-Ok-clause-read c = read_lexed body c.args.tokens.now (view_row c.in-Ok.row) c.in-Ok.ensures.read
