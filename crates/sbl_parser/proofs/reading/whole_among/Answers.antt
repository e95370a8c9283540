use Rattle.std.specs.Prelude.{Some}
use Rattle.std.proofs.Common.{ℕ, ◌∷◌, List, [], ap, sym, ◌∙◌}
use Rattle.sbl_ast.specs.Terminal.{Terminal}
use Rattle.sbl_ast.specs.View.{view_among}
use Rattle.sbl_parser.specs.declared.error.ReadError.TheVariants as errors
use Rattle.sbl_parser.specs.Gives.{ahead, error_for}
use Rattle.sbl_parser.specs.Steps as s
use Rattle.sbl_parser.proofs.Descent as d
use Rattle.sbl_parser.proofs.Whole.{read_among}
use Rattle.sbl_parser.proofs.reading.whole_among.Goals as goal

pub returns-in-Ok-clause-read : goal.returns-in-Ok-clause-read
returns-in-Ok-clause-read c = read_among c.args.tokens.now (ahead c.among.new.cursor) c.args.depth (view_among c.in_ok-found.found) c.in-Ok.ensures.done (sym c.new-cursor.ensures ∙ c.in_ok-found.ensures.0) (λ k. ap (λ (r : List Terminal). s.fault r (s.among c.args.depth ∷ k)) (sym c.new-cursor.ensures) ∙ c.in_ok-found.ensures.1 k)

pub returns-in_default-clause-fault : goal.returns-in_default-clause-fault
returns-in_default-clause-fault c = ap error_for (ap (λ (r : List Terminal). s.fault r (s.among c.args.depth ∷ [])) (sym c.new-cursor.ensures) ∙ d.refused_among _ c.args.depth [] (λ e. c.in_default.not-Among (c.role.ensures ∙ e))) ∙ ap (λ (n : ℕ). Some (errors.Syntax n)) (sym c.count_ahead.ensures)
