-- The role of a token, without its text or its value.
use Rattle.std.specs.Prelude.{List, [], ◌∷◌}
use Rattle.sbl_parser.specs.declared.role.Role.{Role}
use Rattle.sbl_parser.specs.declared.role.Role.TheVariants as roles
use Rattle.sbl_ast.specs.Terminal.{Terminal, additive, among, as_, assigns, backward_mode, base, close_, compares, constant, count}
use Rattle.sbl_ast.specs.Terminal.{declares, define, dollar, edit, for_, inserts, joiner, len_of, literal, macro_name, move, multiplicative}
use Rattle.sbl_ast.specs.Terminal.{name, naming, non, number, open_, other, prefix, set_limit, simple, string_def, string_escapes}

abbrev pub role_as : Terminal → Role
role_as open_ = roles.Open
role_as close_ = roles.Close
role_as dollar = roles.Dollar
role_as as_ = roles.As
role_as for_ = roles.For
role_as non = roles.Non
role_as among = roles.Among
role_as define = roles.Define
role_as backward_mode = roles.BackwardMode
role_as set_limit = roles.SetLimit
role_as string_def = roles.StringDef
role_as string_escapes = roles.StringEscapes
role_as len_of = roles.LenOf
role_as (declares x) = roles.Declares x
role_as (base x) = roles.Base x
role_as (joiner x) = roles.Joiner x
role_as (simple x) = roles.Simple x
role_as (prefix x) = roles.Prefix x
role_as (count x) = roles.Count x
role_as (move x) = roles.Move x
role_as (naming x) = roles.Naming x
role_as (edit x) = roles.Splice x
role_as (additive x) = roles.Additive x
role_as (multiplicative x) = roles.Multiplicative x
role_as (assigns x) = roles.Assignment x
role_as (compares x) = roles.Comparison x
role_as (constant x) = roles.Constant x
role_as (name n) = roles.Name
role_as (number n) = roles.Number
role_as (literal q) = roles.Literal
role_as (inserts a b) = roles.Inserts
role_as (macro_name n) = roles.MacroName
role_as (other x) = roles.Other

abbrev pub role_of : List Terminal → Role
role_of [] = roles.End
role_of (x ∷ rest) = role_as x
