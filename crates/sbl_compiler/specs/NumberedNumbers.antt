-- Strings and arithmetic expressions, with numbers for names.
use Rattle.std.specs.Prelude.{List, [], ◌∷◌}
use Rattle.sbl_ast.specs.declared.tree.Constant.{Constant}
use Rattle.sbl_ast.specs.declared.tree.Constant.TheVariants as constants
use Rattle.sbl_ast.specs.Tree as trees
use Rattle.sbl_program.specs.Chains.{AddedView, ScaledView, all_sums, all_products}
use Rattle.sbl_compiler.specs.NumberedNames.{Names, number_of}
use Rattle.sbl_program.specs.Program as programs

abbrev pub text : Names → trees.Argument → programs.StringTerm
text ns (trees.written_out q) = programs.literal q.value
text ns (trees.by_name n) = programs.variable (number_of ns.strings n)

abbrev pub constant : Constant → programs.Arithmetic
constant constants.MaxInt = programs.maxint
constant constants.MinInt = programs.minint
constant constants.Cursor = programs.cursor
constant constants.Limit = programs.limit
constant constants.Len = programs.len

abbrev mutual
  pub expression : Names → trees.Expression → programs.Arithmetic
  expression ns (trees.expression p ss) = all_sums (sums_in ns ss) (product ns p)

  -- the terms of a sum after the first
  pub sums_in : Names → trees.Sums → List AddedView
  sums_in ns trees.no_sums = []
  sums_in ns (trees.sum o p ss) = (o, product ns p) ∷ sums_in ns ss

  pub product : Names → trees.Product → programs.Arithmetic
  product ns (trees.product f ss) = all_products (scales_in ns ss) (factor ns f)

  -- the factors of a product after the first
  pub scales_in : Names → trees.Scales → List ScaledView
  scales_in ns trees.no_scales = []
  scales_in ns (trees.scale o f ss) = (o, factor ns f) ∷ scales_in ns ss

  pub factor : Names → trees.Factor → programs.Arithmetic
  factor ns (trees.negated f) = programs.negative (factor ns f)
  factor ns (trees.bracketed e) = expression ns e
  factor ns (trees.numeral n) = programs.number n
  factor ns (trees.variable n) = programs.integer (number_of ns.integers n)
  factor ns (trees.fixed c) = constant c
  factor ns (trees.length_of a) = programs.lenof (text ns a)
