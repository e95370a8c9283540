-- The strings and the numbers of a program, and what is done with them.
use Rattle.std.specs.Prelude.{ℕ, ℤ, pos, negsuc, ◌+ℤ◌, ◌-ℤ◌, ◌*ℤ◌, neg_ℤ, Bool, true, not, List, [], length, int_lt, Ok, slice_index_or, slice_set}
use Rattle.std.specs.Ordering.{int_eq}
use Rattle.sbl_program.specs.declared.action.Change.{Change}
use Rattle.sbl_program.specs.declared.action.Change.TheVariants.{Becomes, Plus, Minus, Times, Over}
use Rattle.sbl_program.specs.declared.action.Relation.{Relation}
use Rattle.sbl_program.specs.declared.action.Relation.TheVariants.{Equal, Unequal, Less, LessOrEqual, Greater, GreaterOrEqual}
use Rattle.sbl_program.specs.Program as programs
use Rattle.sbl_semantics.specs.Numbers.{Value, value_in_range, rounded_quotient, with_value, with_both, limit_value, integer_at, continue_with}
use Rattle.sbl_semantics.specs.State.{State, Ending, Signals}
use Rattle.sbl_ast.specs.declared.mode.Mode.{Mode}

-- the characters of a literal or of a string variable
abbrev pub characters : programs.StringTerm → State → List ℕ
characters (programs.literal cs) s = cs
characters (programs.variable i) s = slice_index_or s.strings i []

-- the value of an expression
abbrev pub value : programs.Arithmetic → Mode → State → Value
value (programs.number n) m s = value_in_range (pos n)
value (programs.integer x) m s = Ok (integer_at x s)
value programs.cursor m s = value_in_range (pos s.cursor)
value programs.limit m s = limit_value m s
value programs.len m s = value_in_range (pos (length s.text))
value (programs.lenof t) m s = value_in_range (pos (length (characters t s)))
value programs.maxint m s = Ok (pos 2147483647)
value programs.minint m s = Ok (negsuc 2147483647)
value (programs.negative a) m s = with_value (value a m s) (λ x. value_in_range (neg_ℤ x))
value (programs.sum a b) m s = with_both (value a m s) (value b m s) (λ x y. value_in_range (x +ℤ y))
value (programs.difference a b) m s = with_both (value a m s) (value b m s) (λ x y. value_in_range (x -ℤ y))
value (programs.product a b) m s = with_both (value a m s) (value b m s) (λ x y. value_in_range (x *ℤ y))
value (programs.quotient a b) m s = with_both (value a m s) (value b m s) rounded_quotient

-- the new value of an integer variable
abbrev pub changed_value : Change → ℤ → ℤ → Value
changed_value Becomes x y = Ok y
changed_value Plus x y = value_in_range (x +ℤ y)
changed_value Minus x y = value_in_range (x -ℤ y)
changed_value Times x y = value_in_range (x *ℤ y)
changed_value Over x y = rounded_quotient x y

abbrev pub holds : Relation → ℤ → ℤ → Bool
holds Equal x y = int_eq x y
holds Unequal x y = not (int_eq x y)
holds Less x y = int_lt x y
holds LessOrEqual x y = not (int_lt y x)
holds Greater x y = int_lt y x
holds GreaterOrEqual x y = not (int_lt x y)

-- `$x = AE` and similar commands: the expression first
abbrev pub assign : ℕ → Change → programs.Arithmetic → Mode → State → Ending
assign x change a m s =
    continue_with (with_value (value a m s) (changed_value change (integer_at x s))) s
    (λ z. Signals true (record s { integers = slice_set s.integers x z }))

-- a comparison of two expressions
abbrev pub compare : programs.Arithmetic → Relation → programs.Arithmetic → Mode → State → Ending
compare a relation b m s = continue_with (value a m s) s (λ x. continue_with (value b m s) s (λ y. Signals (holds relation x y) s))
