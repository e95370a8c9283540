use Rattle.std.proofs.Common.{sym, ◌∙◌, map}
use Rattle.sbl_text.specs.Tokens.{placed_of}
use Rattle.sbl_parser.specs.Reading.{IsReadAs}
use Rattle.sbl_ast.specs.Texts.{terms}
use Rattle.sbl_ast.specs.View.{view_argument, view_term}
use Rattle.sbl_script.proofs.Places.{unread, read_as, offered_too}
use Rattle.sbl_script.proofs.script.terms_of_tokens.Goals as goal

pub returns-clause-offered : goal.returns-clause-offered
returns-clause-offered c = offered_too c.parse_terms.result (map placed_of c.args.tokens.now) (sym c.first_left_out.ensures ∙ c.in_default.is)

pub returns-clause-tree : goal.returns-clause-tree
returns-clause-tree c = read_as c.parse_terms.result (λ ts row. IsReadAs terms ts (view_argument row.0, map view_term row.1.items)) c.args.tokens.now c.parse_terms.ensures.read

pub returns-clause-fault : goal.returns-clause-fault
returns-clause-fault c = unread terms c.parse_terms.result c.args.tokens.now c.args.end (sym c.first_left_out.ensures ∙ c.in_default.is) c.parse_terms.ensures.fault
