use Rattle.std.proofs.Common.{◌≡◌, ℤ, pos, Bool, false, Option, Some, None, SomeIff, FitsSigned, Err, sym, ap, ◌∙◌, rules}
use Rattle.std.specs.Prelude.{int_div, if◌then◌else◌}
use Rattle.std.specs.Int.{w32, IsNonZero}
use Rattle.std.specs.Ordering.{int_eq}
use Rattle.std.proofs.lemmas.Int.{ints}
use Rattle.sbl_semantics.specs.declared.fault.RunFault.TheVariants as faults
use Rattle.sbl_semantics.specs.Numbers.{value_in_range}
use Rattle.sbl_run_state.proofs.state.numbers.rounded_quotient.Goals as goal

SomeIff_right : (A B : Type 0) (r : Option ℤ) (z : ℤ) → A → SomeIff r (A × B) z → SomeIff r B z
SomeIff_right A B None z a h = λ b. h (a, b)
SomeIff_right A B (Some v) z a h = (h.0.1, h.1)

pub returns : goal.returns
returns c =
    let x = c.args.x in
    let y = c.args.y in
    let unlike : int_eq y (pos 0) ≡ false = search rules in
    let nonzero : IsNonZero w32 y = search (rules, ints) in
    let same : c.value_in_range.result ≡ value_in_range (int_div x y) = c.value_in_range.ensures (int_div x y) (SomeIff_right (IsNonZero w32 y) (FitsSigned w32 (int_div x y)) c.checked_div.result (int_div x y) nonzero (search rules)) in
    same ∙ sym (ap (λ (b : Bool). if b then Err faults.Divide else value_in_range (int_div x y)) unlike)
