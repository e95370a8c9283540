use Rattle.std.specs.Prelude.{Some}
use Rattle.std.proofs.Common.{◌≡◌, ℕ, ◌∷◌, List, arith, ap, sym, refl, ◌∙◌}
use Rattle.sbl_ast.specs.Terminal.{Terminal}
use Rattle.sbl_ast.specs.Terminal as t
use Rattle.sbl_parser.specs.declared.error.ReadError.TheVariants as errors
use Rattle.sbl_parser.specs.Gives.{ahead, error_for}
use Rattle.sbl_parser.specs.Steps as s
use Rattle.sbl_parser.proofs.Descent as d
use Rattle.sbl_parser.proofs.RoleTokens as of_role
use Rattle.sbl_parser.proofs.items.string_escapes.Goals as goal

pub returns-in-Inserts : goal.returns-in-Inserts
returns-in-Inserts c =
    let first : ahead c.args.cursor.now ≡ t.string_escapes ∷ ahead c.skip.new.self = d.head_of_drop (ahead c.args.cursor.now) (ahead c.skip.new.self) t.string_escapes (of_role.as_terminal (ahead c.args.cursor.now) t.string_escapes refl c.requires) c.skip.ensures in (
      first ∙ ap (λ (r : List Terminal). t.string_escapes ∷ r) c.take_inserts-a.ensures,
      λ k. d.goes_on (ahead c.args.cursor.now) t.string_escapes (ahead c.skip.new.self) (s.plain ∷ k) (s.inserts ∷ k) 0 first refl (omega arith) ∙ d.goes_on (ahead c.skip.new.self) (t.inserts c.take_inserts-a.result.0 c.take_inserts-a.result.1) (ahead c.take_inserts-a.new.self) (s.inserts ∷ k) k 0 c.take_inserts-a.ensures refl (omega arith),
    )

pub returns-in_default : goal.returns-in_default
returns-in_default c =
    let first : ahead c.args.cursor.now ≡ t.string_escapes ∷ ahead c.skip.new.self = d.head_of_drop (ahead c.args.cursor.now) (ahead c.skip.new.self) t.string_escapes (of_role.as_terminal (ahead c.args.cursor.now) t.string_escapes refl c.requires) c.skip.ensures in
    λ k. ap error_for (d.goes_on (ahead c.args.cursor.now) t.string_escapes (ahead c.skip.new.self) (s.plain ∷ k) (s.inserts ∷ k) 0 first refl (omega arith) ∙ d.refused_inserts (ahead c.skip.new.self) k (λ e. c.in_default.not-Inserts (c.role.ensures ∙ e))) ∙ ap (λ (n : ℕ). Some (errors.Syntax n)) (sym c.count_ahead.ensures)
