use Rattle.std.proofs.Common.{◌≡◌, ℕ, ◌≤◌, ◌∷◌, List, ap, sym, refl, ◌∙◌}
use Rattle.std.proofs.lemmas.Result.{err_from_is_err_and}
use Rattle.std.specs.Prelude.{Some, string_bytes}
use Rattle.sbl_ast.specs.Places.{max_depth}
use Rattle.sbl_ast.specs.Terminal.{Terminal}
use Rattle.sbl_ast.specs.Terminal as t
use Rattle.sbl_ast.specs.Tree as trees
use Rattle.sbl_ast.specs.Spelled as written
use Rattle.sbl_parser.specs.declared.error.ReadError.TheVariants as errors
use Rattle.sbl_parser.specs.Gives.{ahead, error_for}
use Rattle.sbl_parser.specs.Steps as s
use Rattle.sbl_parser.proofs.Descent as d
use Rattle.sbl_parser.proofs.RoleTokens as of_role
use Rattle.sbl_ast.proofs.Views as views
use Rattle.sbl_parser.proofs.leaves.assign_command.Goals as goal

-- after the name of a variable an operator is expected
operator_next : (ts rest : List Terminal) (n : List ℕ) (depth : ℕ) (k : s.Stack) → ts ≡ t.name n ∷ rest → depth ≤ max_depth → s.fault (t.dollar ∷ ts) (s.command depth ∷ k) ≡ s.fault rest (s.operator depth ∷ k)
operator_next ts rest n depth k e low = d.goes_on (t.dollar ∷ ts) t.dollar ts (s.command depth ∷ k) (s.subject depth ∷ k) depth refl refl low ∙ d.goes_on ts (t.name n) rest (s.subject depth ∷ k) (s.operator depth ∷ k) depth e refl low

pub returns-in_ok-value-in-Assignment : goal.returns-in_ok-value-in-Assignment
returns-in_ok-value-in-Assignment c =
    let next : ahead c.take_name.new.self ≡ t.assigns c.in-Assignment.operator ∷ ahead c.skip.new.self = d.head_of_drop (ahead c.take_name.new.self) (ahead c.skip.new.self) (t.assigns c.in-Assignment.operator) (of_role.as_terminal (ahead c.take_name.new.self) (t.assigns c.in-Assignment.operator) refl (sym c.role.ensures ∙ c.in-Assignment.is)) c.skip.ensures in (
      ap (λ (r : List Terminal). t.dollar ∷ r) (c.in_ok-subject.ensures ∙ ap (λ (r : List Terminal). t.name (string_bytes c.in_ok-subject.subject) ∷ r) (next ∙ ap (λ (r : List Terminal). t.assigns c.in-Assignment.operator ∷ r) c.in_ok-value-in-Assignment.ensures.0))
          ∙ ap (λ (x : trees.Command). written.spelled_command x (ahead c.expression.new.cursor)) (sym (views.command_Assign c.in_ok-subject.subject c.in-Assignment.operator c.in_ok-value-in-Assignment.value)),
      λ k. operator_next (ahead c.args.cursor.now) (ahead c.take_name.new.self) (string_bytes c.in_ok-subject.subject) c.args.depth k c.in_ok-subject.ensures c.requires.shallow ∙ d.goes_on (ahead c.take_name.new.self) (t.assigns c.in-Assignment.operator) (ahead c.skip.new.self) (s.operator c.args.depth ∷ k) (s.expression c.args.depth k) c.args.depth next refl c.requires.shallow ∙ c.in_ok-value-in-Assignment.ensures.1 k,
    )

pub returns-in_ok-value-in-Comparison : goal.returns-in_ok-value-in-Comparison
returns-in_ok-value-in-Comparison c =
    let next : ahead c.take_name.new.self ≡ t.compares c.in-Comparison.operator ∷ ahead c.skip-in-Comparison.new.self = d.head_of_drop (ahead c.take_name.new.self) (ahead c.skip-in-Comparison.new.self) (t.compares c.in-Comparison.operator) (of_role.as_terminal (ahead c.take_name.new.self) (t.compares c.in-Comparison.operator) refl (sym c.role.ensures ∙ c.in-Comparison.is)) c.skip-in-Comparison.ensures in (
      ap (λ (r : List Terminal). t.dollar ∷ r) (c.in_ok-subject.ensures ∙ ap (λ (r : List Terminal). t.name (string_bytes c.in_ok-subject.subject) ∷ r) (next ∙ ap (λ (r : List Terminal). t.compares c.in-Comparison.operator ∷ r) c.in_ok-value-in-Comparison.ensures.0))
          ∙ ap (λ (x : trees.Command). written.spelled_command x (ahead c.expression-in-Comparison.new.cursor)) (sym (views.command_Compare c.in_ok-subject.subject c.in-Comparison.operator c.in_ok-value-in-Comparison.value)),
      λ k. operator_next (ahead c.args.cursor.now) (ahead c.take_name.new.self) (string_bytes c.in_ok-subject.subject) c.args.depth k c.in_ok-subject.ensures c.requires.shallow ∙ d.goes_on (ahead c.take_name.new.self) (t.compares c.in-Comparison.operator) (ahead c.skip-in-Comparison.new.self) (s.operator c.args.depth ∷ k) (s.expression c.args.depth k) c.args.depth next refl c.requires.shallow ∙ c.in_ok-value-in-Comparison.ensures.1 k,
    )

pub returns-in_err-value-in-Assignment : goal.returns-in_err-value-in-Assignment
returns-in_err-value-in-Assignment c =
    let next : ahead c.take_name.new.self ≡ t.assigns c.in-Assignment.operator ∷ ahead c.skip.new.self = d.head_of_drop (ahead c.take_name.new.self) (ahead c.skip.new.self) (t.assigns c.in-Assignment.operator) (of_role.as_terminal (ahead c.take_name.new.self) (t.assigns c.in-Assignment.operator) refl (sym c.role.ensures ∙ c.in-Assignment.is)) c.skip.ensures in
    let p = err_from_is_err_and c.from_residual-in_err-value-in-Assignment.result c.from_residual-in_err-value-in-Assignment.ensures.1 in
    rw (p.1, p.2) (λ k. d.fails_along _ _ _ (operator_next (ahead c.args.cursor.now) (ahead c.take_name.new.self) (string_bytes c.in_ok-subject.subject) c.args.depth k c.in_ok-subject.ensures c.requires.shallow ∙ d.goes_on (ahead c.take_name.new.self) (t.assigns c.in-Assignment.operator) (ahead c.skip.new.self) (s.operator c.args.depth ∷ k) (s.expression c.args.depth k) c.args.depth next refl c.requires.shallow) (c.in_err-value-in-Assignment.ensures k))

pub returns-in_err-value-in-Comparison : goal.returns-in_err-value-in-Comparison
returns-in_err-value-in-Comparison c =
    let next : ahead c.take_name.new.self ≡ t.compares c.in-Comparison.operator ∷ ahead c.skip-in-Comparison.new.self = d.head_of_drop (ahead c.take_name.new.self) (ahead c.skip-in-Comparison.new.self) (t.compares c.in-Comparison.operator) (of_role.as_terminal (ahead c.take_name.new.self) (t.compares c.in-Comparison.operator) refl (sym c.role.ensures ∙ c.in-Comparison.is)) c.skip-in-Comparison.ensures in
    let p = err_from_is_err_and c.from_residual-in_err-value-in-Comparison.result c.from_residual-in_err-value-in-Comparison.ensures.1 in
    rw (p.1, p.2) (λ k. d.fails_along _ _ _ (operator_next (ahead c.args.cursor.now) (ahead c.take_name.new.self) (string_bytes c.in_ok-subject.subject) c.args.depth k c.in_ok-subject.ensures c.requires.shallow ∙ d.goes_on (ahead c.take_name.new.self) (t.compares c.in-Comparison.operator) (ahead c.skip-in-Comparison.new.self) (s.operator c.args.depth ∷ k) (s.expression c.args.depth k) c.args.depth next refl c.requires.shallow) (c.in_err-value-in-Comparison.ensures k))

pub returns-in_default : goal.returns-in_default
returns-in_default c = λ k. ap error_for (operator_next (ahead c.args.cursor.now) (ahead c.take_name.new.self) (string_bytes c.in_ok-subject.subject) c.args.depth k c.in_ok-subject.ensures c.requires.shallow ∙ d.refused_operator (ahead c.take_name.new.self) c.args.depth k (λ e. c.in_default.not-End (c.role.ensures ∙ e)) (λ o e. c.in_default.not-Assignment o (c.role.ensures ∙ e)) (λ o e. c.in_default.not-Comparison o (c.role.ensures ∙ e))) ∙ ap (λ (n : ℕ). Some (errors.OutOfProfile n)) (sym c.count_ahead-in_default.ensures)
