-- Rows, sums and products: a first part and the others, grouped from left to right.
use Rattle.std.specs.Prelude.{List, [], ◌∷◌}
use Rattle.sbl_ast.specs.declared.tree.Joiner.{Joiner}
use Rattle.sbl_ast.specs.declared.tree.Joiner.TheVariants.{Or, And}
use Rattle.sbl_ast.specs.declared.tree.Additive.{Additive}
use Rattle.sbl_ast.specs.declared.tree.Additive.TheVariants as additives
use Rattle.sbl_ast.specs.declared.tree.Multiplicative.{Multiplicative}
use Rattle.sbl_ast.specs.declared.tree.Multiplicative.TheVariants as multiplicatives
use Rattle.sbl_program.specs.Program as programs

-- the other commands of a row, terms of a sum and factors of a product
abbrev pub JoinedView : Type 0
JoinedView = Joiner × programs.Node

abbrev pub AddedView : Type 0
AddedView = Additive × programs.Arithmetic

abbrev pub ScaledView : Type 0
ScaledView = Multiplicative × programs.Arithmetic

abbrev pub join : Joiner → programs.Node → programs.Node → programs.Node
join Or c d = programs.either c d
join And c d = programs.both c d

abbrev pub join_all : List JoinedView → programs.Node → programs.Node
join_all [] c = c
join_all (o ∷ os) c = join_all os (join o.0 c o.1)

-- a row; a row without others is its command in parentheses
abbrev pub row_node : programs.Node → List JoinedView → programs.Node
row_node c [] = programs.sequence (programs.command c programs.no_commands)
row_node c (o ∷ os) = join_all os (join o.0 c o.1)

abbrev pub sum_or_difference : Additive → programs.Arithmetic → programs.Arithmetic → programs.Arithmetic
sum_or_difference additives.Plus a b = programs.sum a b
sum_or_difference additives.Minus a b = programs.difference a b

abbrev pub all_sums : List AddedView → programs.Arithmetic → programs.Arithmetic
all_sums [] a = a
all_sums (o ∷ os) a = all_sums os (sum_or_difference o.0 a o.1)

abbrev pub product_or_quotient : Multiplicative → programs.Arithmetic → programs.Arithmetic → programs.Arithmetic
product_or_quotient multiplicatives.Times a b = programs.product a b
product_or_quotient multiplicatives.Over a b = programs.quotient a b

abbrev pub all_products : List ScaledView → programs.Arithmetic → programs.Arithmetic
all_products [] a = a
all_products (o ∷ os) a = all_products os (product_or_quotient o.0 a o.1)
