-- Numbers: their range, division, and what is done with a value.
use Rattle.std.specs.Prelude.{ℕ, ℤ, pos, negsuc, ◌-ℤ◌, ◌^◌, length, nat_lt, int_div}
use Rattle.std.specs.Prelude.{if◌then◌else◌, Result, Ok, Err, Option, Some, None, slice_index_or}
use Rattle.std.specs.Ordering.{int_eq}
use Rattle.sbl_semantics.specs.declared.fault.RunFault.{RunFault}
use Rattle.sbl_semantics.specs.declared.fault.RunFault.TheVariants as faults
use Rattle.sbl_semantics.specs.State.{State, Ending, Stops}
use Rattle.sbl_ast.specs.declared.mode.Mode.{Mode}
use Rattle.sbl_ast.specs.declared.mode.Mode.TheVariants.{Forward, Backward}

-- a number, or why there is none
abbrev pub Value : Type 0
Value = Result ℤ RunFault

-- a number from -2147483648 to 2147483647
abbrev pub value_in_range : ℤ → Value
value_in_range (pos n) = if nat_lt n (2 ^ 31) then Ok (pos n) else Err faults.Integer
value_in_range (negsuc n) = if nat_lt n (2 ^ 31) then Ok (negsuc n) else Err faults.Integer

-- the quotient, rounded towards zero
abbrev pub rounded_quotient : ℤ → ℤ → Value
rounded_quotient x y = if int_eq y (pos 0) then Err faults.Divide else value_in_range (int_div x y)

-- continues with a number
abbrev pub with_value : Value → (ℤ → Value) → Value
with_value (Ok z) go = go z
with_value (Err fault) go = Err fault

-- continues with two numbers, the left one first
abbrev pub with_both : Value → Value → (ℤ → ℤ → Value) → Value
with_both a b go = with_value a (λ x. with_value b (go x))

-- the limit of the direction
abbrev pub limit_value : Mode → State → Value
limit_value Forward s = value_in_range (pos (length s.text) -ℤ pos s.beyond)
limit_value Backward s = value_in_range (pos s.left)

-- the value of an integer variable
abbrev pub integer_at : ℕ → State → ℤ
integer_at x s = slice_index_or s.integers x (pos 0)

-- a command continues with a number, or the run is refused
abbrev pub continue_with : Value → State → (ℤ → Ending) → Ending
continue_with (Ok z) s go = go z
continue_with (Err fault) s go = Stops fault s

-- a number that is not negative
abbrev pub natural : ℤ → Option ℕ
natural (pos n) = Some n
natural (negsuc n) = None
