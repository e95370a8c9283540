use Rattle.sbl_ast.specs.Texts.{among}
use Rattle.sbl_ast.specs.View.{view_among}
use Rattle.sbl_parser.proofs.Few.{among_few}
use Rattle.sbl_parser.proofs.Lexed.{read_lexed}
use Rattle.sbl_parser.proofs.Whole.{fault_of}
use Rattle.sbl_parser.proofs.reading.parse_among.Goals as goal

pub returns-in-Err-clause-fault : goal.returns-in-Err-clause-fault
returns-in-Err-clause-fault c = rw c.fault_at_offset.ensures (fault_of (among c.args.depth) c.args.tokens.now c.args.end c.in-Err.error c.in-Err.ensures.fault)

pub returns-in-Ok-clause-few : goal.returns-in-Ok-clause-few
returns-in-Ok-clause-few c = among_few (view_among c.in-Ok.among) c.args.depth c.args.tokens.now (read_lexed (among c.args.depth) c.args.tokens.now (view_among c.in-Ok.among) c.in-Ok.ensures.read).0

pub returns-in-Ok-clause-read : goal.returns-in-Ok-clause-read
returns-in-Ok-clause-read c = read_lexed (among c.args.depth) c.args.tokens.now (view_among c.in-Ok.among) c.in-Ok.ensures.read
