use Rattle.std.proofs.Common.{◌≡◌, ◌∷◌, arith, refl, ◌∙◌}
use Rattle.std.proofs.lemmas.Result.{err_from_is_err_and}
use Rattle.sbl_ast.specs.Terminal as t
use Rattle.sbl_parser.specs.Gives.{ahead}
use Rattle.sbl_parser.specs.Steps as s
use Rattle.sbl_parser.proofs.Descent as d
use Rattle.sbl_parser.proofs.RoleTokens as of_role
use Rattle.sbl_parser.proofs.items.define.Goals as goal

pub returns-in_err-first-in_default : goal.returns-in_err-first-in_default
returns-in_err-first-in_default c =
    let first : ahead c.args.cursor.now ≡ t.define ∷ ahead c.skip.new.self = d.head_of_drop (ahead c.args.cursor.now) (ahead c.skip.new.self) t.define (of_role.as_terminal (ahead c.args.cursor.now) t.define refl c.requires) c.skip.ensures in
    let p = err_from_is_err_and c.from_residual-in_err-first-in_default.result c.from_residual-in_err-first-in_default.ensures.1 in
    rw (p.1, p.2) (λ k. d.fails_along _ _ _ (d.goes_on (ahead c.args.cursor.now) t.define (ahead c.skip.new.self) (s.plain ∷ k) (s.name 0 ∷ s.definition ∷ k) 0 first refl (omega arith) ∙ c.in_ok-name.ensures.1 (s.definition ∷ k) ∙ d.definition_terms (ahead c.name.new.cursor) k (λ e. c.in_default.not-As (c.role.ensures ∙ e))) (c.in_err-first-in_default.ensures k))
