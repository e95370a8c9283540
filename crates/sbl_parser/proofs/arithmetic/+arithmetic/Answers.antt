use Rattle.std.specs.Prelude.{Some}
use Rattle.std.proofs.Common.{rules, ◌≡◌, ℕ, ◌+◌, ◌<◌, ◌∷◌, ◌++◌, List, [], length, map, arith, ap, sym, refl, subst, ◌∙◌}
use Rattle.std.proofs.lemmas.List.{map_push}
use Rattle.std.proofs.lemmas.Result.{err_from_is_err_and}
use Rattle.sbl_ast.specs.declared.tree.NextProduct.{NextProduct}
use Rattle.sbl_ast.specs.declared.tree.NextFactor.{NextFactor}
use Rattle.sbl_ast.specs.Terminal.{Terminal}
use Rattle.sbl_ast.specs.Terminal as t
use Rattle.sbl_ast.specs.Tree as trees
use Rattle.sbl_ast.specs.Spelled as written
use Rattle.sbl_ast.specs.View as view
use Rattle.sbl_ast.specs.inside.ViewParts as view_parts
use Rattle.sbl_parser.specs.declared.error.ReadError.TheVariants as errors
use Rattle.sbl_parser.specs.Gives.{ahead, error_for}
use Rattle.sbl_parser.specs.Steps as s
use Rattle.sbl_parser.proofs.Descent as d
use Rattle.sbl_parser.proofs.RoleTokens as of_role
use Rattle.sbl_parser.proofs.Lengths as lengths
use Rattle.sbl_parser.proofs.Turns as turns
use Rattle.sbl_ast.proofs.Views as views
use Rattle.sbl_parser.proofs.arithmetic.+arithmetic.Goals as goal

pub expression-loop-operator-smaller : goal.expression-loop-operator-smaller
expression-loop-operator-smaller t_ c = turns.shorter (ahead c.loop-operator.cursor) (ahead c.product-in-Additive.new.cursor) (ahead c.skip.new.self) c.skip.ensures (subst (λ (r : List Terminal). length (ahead c.product-in-Additive.new.cursor) < length r) (sym c.in-Ok.ensures.0) (lengths.product_length (view_parts.view_product c.in-Ok.product) (ahead c.product-in-Additive.new.cursor)))

pub expression-loop-operator-preserved : goal.expression-loop-operator-preserved
expression-loop-operator-preserved t_ c =
    let first : ahead c.loop-operator.cursor ≡ t.additive c.in-Additive.operator ∷ ahead c.skip.new.self = d.head_of_drop (ahead c.loop-operator.cursor) (ahead c.skip.new.self) (t.additive c.in-Additive.operator) (of_role.as_terminal (ahead c.loop-operator.cursor) (t.additive c.in-Additive.operator) refl (sym c.role.ensures ∙ c.in-Additive.is)) c.skip.ensures in
    let last : view_parts.NextProductView = (c.in-Additive.operator, view_parts.view_product c.in-Ok.product) in
    let more : map view_parts.view_next_product c.push.new.self.items ≡ map view_parts.view_next_product c.loop-operator.others.items ++ last ∷ [] = ap (λ (xs : List NextProduct). map view_parts.view_next_product xs) c.in-Ok-push.ensures.items ∙ map_push view_parts.view_next_product c.loop-operator.others.items _ ∙ ap (λ (x : view_parts.NextProductView). map view_parts.view_next_product c.loop-operator.others.items ++ x ∷ []) (views.view_of_next_product (record { operator = c.in-Additive.operator; product = c.in-Ok.product })) in
    record {
      spelled = turns.next_sum (written.spelled_product (view_parts.view_product c.in_ok-first.first)) (map view_parts.view_next_product c.loop-operator.others.items) (map view_parts.view_next_product c.push.new.self.items) last _ (ahead c.loop-operator.cursor) (ahead c.product-in-Additive.new.cursor) c.loop-operator.invariant.spelled (first ∙ ap (λ (r : List Terminal). t.additive c.in-Additive.operator ∷ r) c.in-Ok.ensures.0) more;
      faults = λ k. c.loop-operator.invariant.faults k ∙ d.goes_on (ahead c.loop-operator.cursor) (t.additive c.in-Additive.operator) (ahead c.skip.new.self) (s.sums c.args.depth ∷ k) (s.expression c.args.depth k) c.args.depth first refl (omega arith) ∙ c.in-Ok.ensures.1 (s.sums c.args.depth ∷ k);
    }

pub product-loop-operator-smaller : goal.product-loop-operator-smaller
product-loop-operator-smaller t_ c = turns.shorter (ahead c.loop-operator.cursor) (ahead c.factor-in-Multiplicative.new.cursor) (ahead c.skip.new.self) c.skip.ensures (subst (λ (r : List Terminal). length (ahead c.factor-in-Multiplicative.new.cursor) < length r) (sym c.in-Ok.ensures.0) (lengths.factor_length (view_parts.view_factor c.in-Ok.factor) (ahead c.factor-in-Multiplicative.new.cursor)))

pub product-loop-operator-preserved : goal.product-loop-operator-preserved
product-loop-operator-preserved t_ c =
    let first : ahead c.loop-operator.cursor ≡ t.multiplicative c.in-Multiplicative.operator ∷ ahead c.skip.new.self = d.head_of_drop (ahead c.loop-operator.cursor) (ahead c.skip.new.self) (t.multiplicative c.in-Multiplicative.operator) (of_role.as_terminal (ahead c.loop-operator.cursor) (t.multiplicative c.in-Multiplicative.operator) refl (sym c.role.ensures ∙ c.in-Multiplicative.is)) c.skip.ensures in
    let last : view_parts.NextFactorView = (c.in-Multiplicative.operator, view_parts.view_factor c.in-Ok.factor) in
    let more : map view_parts.view_next_factor c.push.new.self.items ≡ map view_parts.view_next_factor c.loop-operator.others.items ++ last ∷ [] = ap (λ (xs : List NextFactor). map view_parts.view_next_factor xs) c.in-Ok-push.ensures.items ∙ map_push view_parts.view_next_factor c.loop-operator.others.items _ ∙ ap (λ (x : view_parts.NextFactorView). map view_parts.view_next_factor c.loop-operator.others.items ++ x ∷ []) (views.view_of_next_factor (record { operator = c.in-Multiplicative.operator; factor = c.in-Ok.factor })) in
    record {
      spelled = turns.next_scale (written.spelled_factor (view_parts.view_factor _)) (map view_parts.view_next_factor c.loop-operator.others.items) (map view_parts.view_next_factor c.push.new.self.items) last _ (ahead c.loop-operator.cursor) (ahead c.factor-in-Multiplicative.new.cursor) c.loop-operator.invariant.spelled (first ∙ ap (λ (r : List Terminal). t.multiplicative c.in-Multiplicative.operator ∷ r) c.in-Ok.ensures.0) more;
      faults = λ k. c.loop-operator.invariant.faults k ∙ d.goes_on (ahead c.loop-operator.cursor) (t.multiplicative c.in-Multiplicative.operator) (ahead c.skip.new.self) (s.scales c.args.depth ∷ k) (s.factor c.args.depth ∷ s.scales c.args.depth ∷ k) c.args.depth first refl (omega arith) ∙ c.in-Ok.ensures.1 (s.scales c.args.depth ∷ k);
    }

pub product-returns : goal.product-returns
product-returns t_ c = (
  c.loop-operator.invariant.spelled ∙ ap (λ (x : trees.Product). written.spelled_product x (ahead c.loop-operator.cursor)) (sym (views.view_of_product (record { first = _; others = c.loop-operator.others }))),
  λ k. c.loop-operator.invariant.faults k ∙ d.skips_scales (ahead c.loop-operator.cursor) c.args.depth k (λ o e. c.in_default.not-Multiplicative o (c.role.ensures ∙ e)),
)

pub expression-returns : goal.expression-returns
expression-returns t_ c = (
  c.loop-operator.invariant.spelled ∙ ap (λ (x : trees.Expression). written.spelled_expression x (ahead c.loop-operator.cursor)) (sym (views.view_of_expression (record { first = c.in_ok-first.first; others = c.loop-operator.others }))),
  λ k. c.loop-operator.invariant.faults k ∙ d.skips_sums (ahead c.loop-operator.cursor) c.args.depth k (λ o e. c.in_default.not-Additive o (c.role.ensures ∙ e)),
)

pub expression-returns-in-Err : goal.expression-returns-in-Err
expression-returns-in-Err t_ c =
    let first : ahead c.loop-operator.cursor ≡ t.additive c.in-Additive.operator ∷ ahead c.skip.new.self = d.head_of_drop (ahead c.loop-operator.cursor) (ahead c.skip.new.self) (t.additive c.in-Additive.operator) (of_role.as_terminal (ahead c.loop-operator.cursor) (t.additive c.in-Additive.operator) refl (sym c.role.ensures ∙ c.in-Additive.is)) c.skip.ensures in
    λ k. d.fails_along _ _ _ (c.loop-operator.invariant.faults k ∙ d.goes_on (ahead c.loop-operator.cursor) (t.additive c.in-Additive.operator) (ahead c.skip.new.self) (s.sums c.args.depth ∷ k) (s.expression c.args.depth k) c.args.depth first refl (omega arith)) (c.in-Err.ensures (s.sums c.args.depth ∷ k))

pub product-returns-in-Err : goal.product-returns-in-Err
product-returns-in-Err t_ c =
    let first : ahead c.loop-operator.cursor ≡ t.multiplicative c.in-Multiplicative.operator ∷ ahead c.skip.new.self = d.head_of_drop (ahead c.loop-operator.cursor) (ahead c.skip.new.self) (t.multiplicative c.in-Multiplicative.operator) (of_role.as_terminal (ahead c.loop-operator.cursor) (t.multiplicative c.in-Multiplicative.operator) refl (sym c.role.ensures ∙ c.in-Multiplicative.is)) c.skip.ensures in
    λ k. d.fails_along _ _ _ (c.loop-operator.invariant.faults k ∙ d.goes_on (ahead c.loop-operator.cursor) (t.multiplicative c.in-Multiplicative.operator) (ahead c.skip.new.self) (s.scales c.args.depth ∷ k) (s.factor c.args.depth ∷ s.scales c.args.depth ∷ k) c.args.depth first refl (omega arith)) (c.in-Err.ensures (s.scales c.args.depth ∷ k))

pub factor-returns-in-Constant : goal.factor-returns-in-Constant
factor-returns-in-Constant t_ c =
    let first : ahead c.args.cursor.now ≡ t.constant c.in-Constant.constant ∷ ahead c.skip.new.self = d.head_of_drop (ahead c.args.cursor.now) (ahead c.skip.new.self) (t.constant c.in-Constant.constant) (of_role.as_terminal (ahead c.args.cursor.now) (t.constant c.in-Constant.constant) refl (sym c.role.ensures ∙ c.in-Constant.is)) c.skip.ensures in (
      first ∙ ap (λ (x : trees.Factor). written.spelled_factor x (ahead c.skip.new.self)) (sym (views.factor_Constant c.in-Constant.constant)),
      λ k. d.goes_on (ahead c.args.cursor.now) (t.constant c.in-Constant.constant) (ahead c.skip.new.self) (s.factor c.args.depth ∷ k) k c.args.depth first refl (omega arith),
    )

pub factor-returns-in_ok-argument-in-LenOf : goal.factor-returns-in_ok-argument-in-LenOf
factor-returns-in_ok-argument-in-LenOf t_ c =
    let first : ahead c.args.cursor.now ≡ t.len_of ∷ ahead c.skip-in-LenOf.new.self = d.head_of_drop (ahead c.args.cursor.now) (ahead c.skip-in-LenOf.new.self) t.len_of (of_role.as_terminal (ahead c.args.cursor.now) t.len_of refl (sym c.role.ensures ∙ c.in-LenOf.is)) c.skip-in-LenOf.ensures in (
      first ∙ ap (λ (r : List Terminal). t.len_of ∷ r) c.in_ok-argument-in-LenOf.ensures.0 ∙ ap (λ (x : trees.Factor). written.spelled_factor x (ahead c.argument.new.cursor)) (sym (views.factor_LenOf c.in_ok-argument-in-LenOf.field-0)),
      λ k. d.goes_on (ahead c.args.cursor.now) t.len_of (ahead c.skip-in-LenOf.new.self) (s.factor c.args.depth ∷ k) (s.argument c.args.depth ∷ k) c.args.depth first refl (omega arith) ∙ c.in_ok-argument-in-LenOf.ensures.1 k,
    )

pub factor-returns-in_err-argument-in-LenOf : goal.factor-returns-in_err-argument-in-LenOf
factor-returns-in_err-argument-in-LenOf t_ c =
    let first : ahead c.args.cursor.now ≡ t.len_of ∷ ahead c.skip-in-LenOf.new.self = d.head_of_drop (ahead c.args.cursor.now) (ahead c.skip-in-LenOf.new.self) t.len_of (of_role.as_terminal (ahead c.args.cursor.now) t.len_of refl (sym c.role.ensures ∙ c.in-LenOf.is)) c.skip-in-LenOf.ensures in
    let p = err_from_is_err_and c.from_residual-in_err-argument-in-LenOf.result c.from_residual-in_err-argument-in-LenOf.ensures.1 in
    rw (p.1, p.2) (λ k. d.fails_along _ _ _ (d.goes_on (ahead c.args.cursor.now) t.len_of (ahead c.skip-in-LenOf.new.self) (s.factor c.args.depth ∷ k) (s.argument c.args.depth ∷ k) c.args.depth first refl (omega arith)) (c.in_err-argument-in-LenOf.ensures k))

pub factor-returns-in_default : goal.factor-returns-in_default
factor-returns-in_default t_ c = λ k. ap error_for (d.refused_factor (ahead c.args.cursor.now) c.args.depth k (λ o e. c.in_default.not-Additive o (c.role.ensures ∙ e)) (λ e. c.in_default.not-Open (c.role.ensures ∙ e)) (λ e. c.in_default.not-Number (c.role.ensures ∙ e)) (λ e. c.in_default.not-Name (c.role.ensures ∙ e)) (λ o e. c.in_default.not-Constant o (c.role.ensures ∙ e)) (λ e. c.in_default.not-LenOf (c.role.ensures ∙ e))) ∙ ap (λ (n : ℕ). Some (errors.Syntax n)) (sym c.count_ahead.ensures)

pub bracket_factor-returns-in_err-inner : goal.bracket_factor-returns-in_err-inner
bracket_factor-returns-in_err-inner t_ c =
    let first : ahead c.args.cursor.now ≡ t.open_ ∷ ahead c.skip.new.self = d.head_of_drop (ahead c.args.cursor.now) (ahead c.skip.new.self) t.open_ (of_role.as_terminal (ahead c.args.cursor.now) t.open_ refl c.requires.first) c.skip.ensures in
    let p = err_from_is_err_and c.from_residual.result c.from_residual.ensures.1 in
    rw (p.1, p.2) (λ k. d.fails_along _ _ _ (d.goes_on (ahead c.args.cursor.now) t.open_ (ahead c.skip.new.self) (s.factor c.args.depth ∷ k) (s.expression (c.args.depth + 1) (s.closing (c.args.depth + 1) ∷ k)) (c.args.depth + 1) first refl (omega arith)) (c.in_err-inner.ensures (s.closing (c.args.depth + 1) ∷ k)))

pub bracket_factor-returns : goal.bracket_factor-returns
bracket_factor-returns t_ c =
    subst (λ (x : trees.Factor). (ahead c.args.cursor.now ≡ written.spelled_factor x (ahead c.take.new.self)) × ((k : s.Stack) → s.fault (ahead c.args.cursor.now) (s.factor c.args.depth ∷ k) ≡ s.fault (ahead c.take.new.self) k))
    (sym (views.factor_Bracket c.in_ok-new.field-0)) (search rules)
