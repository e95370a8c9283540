use Rattle.std.proofs.Common.{◌≡◌, ◌+◌, List, drop, map, Ok, refl, sym, ap, ◌∙◌, rules}
use Rattle.sbl_program.specs.Arithmetic.{value}
use Rattle.sbl_program.specs.Rows.{product_of, scales_to, sum_of, sums_to}
use Rattle.sbl_program.specs.ProgramOf.{view_next_product, view_number, view_next_factor}
use Rattle.sbl_program.specs.declared.action.Addend.{Addend}
use Rattle.sbl_program.specs.declared.action.Multiplicand.{Multiplicand}
use Rattle.sbl_semantics.specs.Numbers.{Value}
use Rattle.sbl_program.proofs.ChainRuns.{product_value, scales_stop, sum_value, sums_stop}
use Rattle.sbl_run_state.proofs.FurtherTerms.{first_refused, first_taken, turn_refused, turn_taken}
use Rattle.sbl_run_state.proofs.state.State.+value.Goals as goal

pub value-returns-in_err-start-in-Sum : goal.value-returns-in_err-start-in-Sum
value-returns-in_err-start-in-Sum t c = first_refused (λ v. sums_to (map view_next_product c.in-Sum.others.items) v c.args.mode c.args.self.now) _ (value (view_number c.in-Sum.first.value) c.args.mode c.args.self.now) c.value-in-Sum.result c.from_residual-in_err-start-in-Sum.result c.in_err-start-in-Sum.field-0.0 (sums_stop (map view_next_product c.in-Sum.others.items) c.in_err-start-in-Sum.field-0.0 c.args.mode c.args.self.now) (ap (λ e. value (view_number e) c.args.mode c.args.self.now) c.in-Sum.is ∙ sum_value c.in-Sum.first c.in-Sum.others c.args.mode c.args.self.now) (ap (λ n. value (view_number n) c.args.mode c.args.self.now) (sym c.deref-in-Sum.ensures) ∙ sym c.value-in-Sum.ensures) (search rules) (search rules)

pub value-returns-in_ok-start-in-Sum : goal.value-returns-in_ok-start-in-Sum
value-returns-in_ok-start-in-Sum t c = first_taken (λ (xs : List Addend) (v : Value). sums_to (map view_next_product xs) v c.args.mode c.args.self.now) _ (value (view_number c.in-Sum.first.value) c.args.mode c.args.self.now) c.value-in-Sum.result (Ok c.in_ok-start-in-Sum.start) c.sum.result _ _ c.deref-in-Sum-2.ensures.value (ap (λ e. value (view_number e) c.args.mode c.args.self.now) c.in-Sum.is ∙ sum_value c.in-Sum.first c.in-Sum.others c.args.mode c.args.self.now) (ap (λ n. value (view_number n) c.args.mode c.args.self.now) (sym c.deref-in-Sum.ensures) ∙ sym c.value-in-Sum.ensures) (search rules) (search rules)

pub value-returns-in_err-start-in-Product : goal.value-returns-in_err-start-in-Product
value-returns-in_err-start-in-Product t c = first_refused (λ v. scales_to (map view_next_factor c.in-Product.others.items) v c.args.mode c.args.self.now) _ (value (view_number c.in-Product.first.value) c.args.mode c.args.self.now) c.value-in-Product.result c.from_residual-in_err-start-in-Product.result c.in_err-start-in-Product.field-0.0 (scales_stop (map view_next_factor c.in-Product.others.items) c.in_err-start-in-Product.field-0.0 c.args.mode c.args.self.now) (ap (λ e. value (view_number e) c.args.mode c.args.self.now) c.in-Product.is ∙ product_value c.in-Product.first c.in-Product.others c.args.mode c.args.self.now) (ap (λ n. value (view_number n) c.args.mode c.args.self.now) (sym c.deref-in-Product.ensures) ∙ sym c.value-in-Product.ensures) (search rules) (search rules)

pub value-returns-in_ok-start-in-Product : goal.value-returns-in_ok-start-in-Product
value-returns-in_ok-start-in-Product t c = first_taken (λ (xs : List Multiplicand) (v : Value). scales_to (map view_next_factor xs) v c.args.mode c.args.self.now) _ (value (view_number c.in-Product.first.value) c.args.mode c.args.self.now) c.value-in-Product.result (Ok c.in_ok-start-in-Product.start) c.product.result _ _ c.deref-in-Product-2.ensures.value (ap (λ e. value (view_number e) c.args.mode c.args.self.now) c.in-Product.is ∙ product_value c.in-Product.first c.in-Product.others c.args.mode c.args.self.now) (ap (λ n. value (view_number n) c.args.mode c.args.self.now) (sym c.deref-in-Product.ensures) ∙ sym c.value-in-Product.ensures) (search rules) (search rules)

pub sum-returns-in_err-total : goal.sum-returns-in_err-total
sum-returns-in_err-total t c = turn_refused view_next_product sum_of sums_to c.args.mode c.args.self.now (λ o os v. refl) c.args.others.now c.loop-other.other-index c.other-item.result (Ok c.loop-other.total) (Ok c.args.start) c.sum_with.result c.from_residual.result c.in_err-total.field-0.0 (λ os. sums_stop os _ _ _) (search rules) c.loop-other-test.true c.other-item.is (search rules) (search rules) (search rules)

pub product-returns-in_err-total : goal.product-returns-in_err-total
product-returns-in_err-total t c = turn_refused view_next_factor product_of scales_to c.args.mode c.args.self.now (λ o os v. refl) c.args.others.now c.loop-other.other-index c.other-item.result (Ok c.loop-other.total) (Ok c.args.start) c.product_with.result c.from_residual.result c.in_err-total.field-0.0 (λ os. scales_stop os _ _ _) (search rules) c.loop-other-test.true c.other-item.is (search rules) (search rules) (search rules)

pub sum-loop-other-preserved : goal.sum-loop-other-preserved
sum-loop-other-preserved t c =
    let z : sums_to (map view_next_product (drop (c.loop-other.other-index + 1) c.args.others.now)) (Ok c.in_ok-total.total) c.args.mode c.args.self.now ≡ sums_to (map view_next_product c.args.others.now) (Ok c.args.start) c.args.mode c.args.self.now = turn_taken view_next_product sum_of sums_to c.args.mode c.args.self.now (λ o os v. refl) c.args.others.now c.loop-other.other-index c.other-item.result (Ok c.loop-other.total) (Ok c.args.start) c.sum_with.result (Ok c.in_ok-total.total) (search rules) c.loop-other-test.true c.other-item.is (search rules) (search rules) in
    search (rules, z)

pub product-loop-other-preserved : goal.product-loop-other-preserved
product-loop-other-preserved t c =
    let z : scales_to (map view_next_factor (drop (c.loop-other.other-index + 1) c.args.others.now)) (Ok c.in_ok-total.total) c.args.mode c.args.self.now ≡ scales_to (map view_next_factor c.args.others.now) (Ok c.args.start) c.args.mode c.args.self.now = turn_taken view_next_factor product_of scales_to c.args.mode c.args.self.now (λ o os v. refl) c.args.others.now c.loop-other.other-index c.other-item.result (Ok c.loop-other.total) (Ok c.args.start) c.product_with.result (Ok c.in_ok-total.total) (search rules) c.loop-other-test.true c.other-item.is (search rules) (search rules) in
    search (rules, z)
