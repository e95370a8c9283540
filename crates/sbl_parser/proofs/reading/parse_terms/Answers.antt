use Rattle.sbl_ast.specs.View.{view_argument, view_term}
use Rattle.sbl_ast.specs.Texts.{terms}
use Rattle.std.proofs.Common.{map}
use Rattle.sbl_parser.proofs.Lexed.{read_lexed}
use Rattle.sbl_parser.proofs.Whole.{fault_of}
use Rattle.sbl_parser.proofs.reading.parse_terms.Goals as goal

pub returns-in-Err-clause-fault : goal.returns-in-Err-clause-fault
returns-in-Err-clause-fault c = rw c.fault_at_offset.ensures (fault_of terms c.args.tokens.now c.args.end c.in-Err.error c.in-Err.ensures.fault)

pub returns-in-Ok-clause-read : goal.returns-in-Ok-clause-read
returns-in-Ok-clause-read c = read_lexed terms c.args.tokens.now (view_argument c.in-Ok.terms.0, map view_term c.in-Ok.terms.1.items) c.in-Ok.ensures.read
