use Rattle.std.proofs.Common.{◌∷◌, List, map, ap, sym, ◌∙◌}
use Rattle.sbl_ast.specs.Terminal.{Terminal}
use Rattle.sbl_ast.specs.View.{view_argument, view_term}
use Rattle.sbl_parser.specs.Gives.{ahead}
use Rattle.sbl_parser.specs.Steps as s
use Rattle.sbl_parser.proofs.Whole.{read_terms}
use Rattle.sbl_parser.proofs.reading.whole_terms.Goals as goal

pub returns-in-Ok-clause-read : goal.returns-in-Ok-clause-read
returns-in-Ok-clause-read c =
    read_terms c.args.tokens.now (ahead c.terms.new.cursor) (view_argument c.in_ok-found.found.0, map view_term c.in_ok-found.found.1.items) c.in-Ok.ensures.done (sym c.new-cursor.ensures ∙ c.in_ok-found.ensures.0) (λ k. ap (λ (r : List Terminal). s.fault r (s.argument 0 ∷ s.terms ∷ k)) (sym c.new-cursor.ensures) ∙ c.in_ok-found.ensures.1 k)
