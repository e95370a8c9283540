use Rattle.std.proofs.Common.{sym, ◌∙◌, map}
use Rattle.sbl_text.specs.Tokens.{placed_of}
use Rattle.sbl_parser.specs.Reading.{IsReadAs}
use Rattle.sbl_ast.specs.Texts.{body}
use Rattle.sbl_ast.specs.View.{view_row}
use Rattle.sbl_script.proofs.Places.{unread, read_as, offered_too}
use Rattle.sbl_script.proofs.script.body_of_tokens.Goals as goal

pub returns-clause-offered : goal.returns-clause-offered
returns-clause-offered c = offered_too c.parse_body.result (map placed_of c.args.tokens.now) (sym c.first_left_out.ensures ∙ c.in_default.is)

pub returns-clause-tree : goal.returns-clause-tree
returns-clause-tree c = read_as c.parse_body.result (λ ts row. IsReadAs body ts (view_row row)) c.args.tokens.now c.parse_body.ensures.read

pub returns-clause-fault : goal.returns-clause-fault
returns-clause-fault c = unread body c.parse_body.result c.args.tokens.now c.args.end (sym c.first_left_out.ensures ∙ c.in_default.is) c.parse_body.ensures.fault
