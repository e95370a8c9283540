-- Rows, sums and products one part after another, and several steps at once. A definition that must be believed rests on none
-- of these: functions that run a row, a sum or a product promise them.
use Rattle.std.specs.Prelude.{ℕ, ℤ, zero, suc, ◌-◌, ◌+ℤ◌, ◌-ℤ◌, ◌*ℤ◌, Bool, true, false, not, List, [], ◌∷◌, length, if◌then◌else◌}
use Rattle.sbl_ast.specs.declared.tree.Joiner.{Joiner}
use Rattle.sbl_ast.specs.declared.tree.Joiner.TheVariants.{Or, And}
use Rattle.sbl_ast.specs.declared.tree.Additive.{Additive}
use Rattle.sbl_ast.specs.declared.tree.Additive.TheVariants as additives
use Rattle.sbl_ast.specs.declared.tree.Multiplicative.{Multiplicative}
use Rattle.sbl_ast.specs.declared.tree.Multiplicative.TheVariants as multiplicatives
use Rattle.sbl_program.specs.Chains.{AddedView, JoinedView, ScaledView}
use Rattle.sbl_program.specs.Program as programs
use Rattle.sbl_ast.specs.declared.mode.Mode.{Mode}
use Rattle.sbl_semantics.specs.declared.cursor.SavedCursor.{SavedCursor}
use Rattle.sbl_semantics.specs.Numbers.{Value, value_in_range, rounded_quotient, with_both}
use Rattle.sbl_program.specs.Arithmetic.{value}
use Rattle.sbl_program.specs.Run.{runs}
use Rattle.sbl_semantics.specs.State.{State, Ending, Signals, Doing, after, then_on, pay, saved_cursor, put_back}

-- ---- sums and products

abbrev pub sum_of : Additive → ℤ → ℤ → Value
sum_of additives.Plus x y = value_in_range (x +ℤ y)
sum_of additives.Minus x y = value_in_range (x -ℤ y)

-- the other terms, added to and subtracted from the value so far
abbrev pub sums_to : List AddedView → Value → Mode → State → Value
sums_to [] v m s = v
sums_to (o ∷ os) v m s = sums_to os (with_both v (value o.1 m s) (sum_of o.0)) m s

abbrev pub product_of : Multiplicative → ℤ → ℤ → Value
product_of multiplicatives.Times x y = value_in_range (x *ℤ y)
product_of multiplicatives.Over x y = rounded_quotient x y

abbrev pub scales_to : List ScaledView → Value → Mode → State → Value
scales_to [] v m s = v
scales_to (o ∷ os) v m s = scales_to os (with_both v (value o.1 m s) (product_of o.0)) m s

-- ---- rows

-- uses this many steps
abbrev pub pays : ℕ → State → Ending
pays zero s = Signals true s
pays (suc n) s = then_on (pay s.steps s) (pays n)

-- the signal decides the row so far, whatever the next command does
abbrev pub is_settled : Joiner → Bool → Bool
is_settled Or b = b
is_settled And b = not b

-- the next command of a row, after a signal
abbrev pub joined_runs : programs.Program → ℕ → Mode → SavedCursor → JoinedView → Bool → State → Ending
joined_runs p levels m from o b s = if is_settled o.0 b then Signals b s else then_on (put_back m from s) (runs p levels o.1 m)

abbrev pub joined_after : programs.Program → ℕ → Mode → SavedCursor → JoinedView → Ending → Ending
joined_after p levels m from o e = after e (joined_runs p levels m from o true) (joined_runs p levels m from o false)

-- the others one after another, each after those before it
abbrev pub others_run : programs.Program → ℕ → Mode → SavedCursor → List JoinedView → Ending → Ending
others_run p levels m from [] e = e
others_run p levels m from (o ∷ os) e = others_run p levels m from os (joined_after p levels m from o e)

-- a row whose first step is paid: the steps of its other joiners, the first command, and the others
abbrev pub row_runs : programs.Program → ℕ → programs.Node → List JoinedView → Doing
row_runs p levels c os m s = then_on (pays (length os - 1) s) (λ u. others_run p levels m (saved_cursor u) os (runs p levels c m u))
