use Rattle.std.proofs.Common.{◌∷◌, List, ap, sym, ◌∙◌}
use Rattle.sbl_ast.specs.Terminal.{Terminal}
use Rattle.sbl_ast.specs.View.{view_items}
use Rattle.sbl_parser.specs.Gives.{ahead}
use Rattle.sbl_parser.specs.Steps as s
use Rattle.sbl_parser.proofs.Whole.{read_whole}
use Rattle.sbl_parser.proofs.reading.all_items.Goals as goal

pub returns-in-Ok-clause-read : goal.returns-in-Ok-clause-read
returns-in-Ok-clause-read c = read_whole c.args.tokens.now (ahead c.items.new.cursor) (view_items c.in_ok-found.found.items) c.in-Ok.ensures.done (sym c.new-cursor.ensures ∙ c.in_ok-found.ensures.0) (λ k. ap (λ (r : List Terminal). s.fault r (s.items ∷ k)) (sym c.new-cursor.ensures) ∙ c.in_ok-found.ensures.1 k)
