use Rattle.std.proofs.Common.{sym, ◌∙◌, map}
use Rattle.sbl_text.specs.Tokens.{placed_of}
use Rattle.sbl_parser.specs.Reading.{IsReadAs}
use Rattle.sbl_ast.specs.Texts.{among}
use Rattle.sbl_ast.specs.View.{view_among}
use Rattle.sbl_script.proofs.Places.{unread, read_as, offered_too}
use Rattle.sbl_script.proofs.script.among_of_tokens.Goals as goal

pub returns-clause-offered : goal.returns-clause-offered
returns-clause-offered c = offered_too c.parse_among.result (map placed_of c.args.tokens.now) (sym c.first_left_out.ensures ∙ c.in_default.is)

pub returns-clause-tree : goal.returns-clause-tree
returns-clause-tree c = read_as c.parse_among.result (λ ts x. IsReadAs (among c.args.depth) ts (view_among x)) c.args.tokens.now c.parse_among.ensures.read

pub returns-clause-fault : goal.returns-clause-fault
returns-clause-fault c = unread (among c.args.depth) c.parse_among.result c.args.tokens.now c.args.end (sym c.first_left_out.ensures ∙ c.in_default.is) c.parse_among.ensures.fault
