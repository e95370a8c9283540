use Rattle.std.proofs.Common.{sym, ◌∙◌, map}
use Rattle.sbl_text.specs.Tokens.{placed_of}
use Rattle.sbl_parser.specs.Reading.{IsReadAs}
use Rattle.sbl_ast.specs.Texts.{script}
use Rattle.sbl_ast.specs.View.{view_items}
use Rattle.sbl_script.proofs.Places.{unread, read_as, offered_too}
use Rattle.sbl_source_map.proofs.fault_lists.tree_of.Goals as goal

pub returns-clause-offered : goal.returns-clause-offered
returns-clause-offered c = offered_too c.parse.result (map placed_of c.args.tokens.now) (sym c.first_left_out.ensures ∙ c.in_default.is)

pub returns-clause-tree : goal.returns-clause-tree
returns-clause-tree c = read_as c.parse.result (λ ts items. IsReadAs script ts (view_items items.items)) c.args.tokens.now c.parse.ensures.read

pub returns-clause-fault : goal.returns-clause-fault
returns-clause-fault c = unread script c.parse.result c.args.tokens.now c.args.end (sym c.first_left_out.ensures ∙ c.in_default.is) c.parse.ensures.fault
