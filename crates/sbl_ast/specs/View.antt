-- A tree without memory addresses.
use Rattle.std.specs.Prelude.{List, map, option_map, string_bytes}
use Rattle.std.specs.Option.{option_map_or}
use Rattle.sbl_ast.specs.Folds.{foldr}
use Rattle.sbl_ast.specs.declared.tree.Literal.{Literal}
use Rattle.sbl_ast.specs.declared.tree.Argument.{Argument}
use Rattle.sbl_ast.specs.declared.tree.Argument.TheVariants as arguments
use Rattle.sbl_ast.specs.declared.tree.Expression.{Expression}
use Rattle.sbl_ast.specs.declared.tree.Product.{Product}
use Rattle.sbl_ast.specs.declared.tree.Factor.{Factor}
use Rattle.sbl_ast.specs.declared.tree.Factor.TheOpen.{Factor-F}
use Rattle.sbl_ast.specs.declared.tree.Factor.TheFolds.{fold-Expression}
use Rattle.sbl_ast.specs.declared.tree.Command.{Command}
use Rattle.sbl_ast.specs.declared.tree.Among.{Among}
use Rattle.sbl_ast.specs.declared.tree.Group.{Group}
use Rattle.sbl_ast.specs.declared.tree.RowOfCommands.{RowOfCommands as Row}
use Rattle.sbl_ast.specs.declared.tree.Command.TheOpen.{Among-F, Command-F, Group-F, RowOfCommands-F}
use Rattle.sbl_ast.specs.declared.tree.Command.TheFolds.{fold-Among, fold-Command, fold-RowOfCommands}
use Rattle.sbl_ast.specs.declared.tree.Entry.{Entry}
use Rattle.sbl_ast.specs.declared.tree.Term.{Term}
use Rattle.sbl_ast.specs.declared.tree.Plain.{Plain}
use Rattle.sbl_ast.specs.declared.tree.Plain.TheVariants as plains
use Rattle.sbl_ast.specs.declared.tree.ScriptItem.{ScriptItem as Item}
use Rattle.sbl_ast.specs.declared.tree.ScriptItem.TheVariants as items
use Rattle.sbl_ast.specs.declared.tree.Joiner.{Joiner}
use Rattle.sbl_ast.specs.declared.tree.Additive.{Additive}
use Rattle.sbl_ast.specs.declared.tree.Multiplicative.{Multiplicative}
use Rattle.sbl_ast.specs.Tree.{QuotedText}
use Rattle.sbl_ast.specs.Tree as trees

abbrev pub view_literal : Literal → QuotedText
view_literal l = record { spelling = string_bytes l.spelling; value = l.value.items }

abbrev pub view_argument : Argument → trees.Argument
view_argument (arguments.Literal l) = trees.written_out (view_literal l)
view_argument (arguments.Name n) = trees.by_name (string_bytes n)

-- ---- arithmetic

abbrev pub factor_step : Factor-F trees.Factor trees.Expression (Multiplicative × trees.Factor) (Additive × trees.Product) trees.Product
    → trees.Factor
factor_step (Factor-F.Minus f) = trees.negated f.value
factor_step (Factor-F.Bracket e) = trees.bracketed e.value
factor_step (Factor-F.Number n) = trees.numeral n
factor_step (Factor-F.Name n) = trees.variable (string_bytes n)
factor_step (Factor-F.Constant c) = trees.fixed c
factor_step (Factor-F.LenOf a) = trees.length_of (view_argument a)

abbrev pub view_expression : Expression → trees.Expression
view_expression =
    fold-Expression trees.Factor trees.Expression (Multiplicative × trees.Factor) (Additive × trees.Product) trees.Product factor_step
    (λ e. trees.expression e.first (foldr (λ s. trees.sum s.0 s.1) trees.no_sums e.others.items))
    (λ s. (s.operator, s.factor)) (λ a. (a.operator, a.product))
    (λ p. trees.product p.first (foldr (λ s. trees.scale s.0 s.1) trees.no_scales p.others.items))

-- ---- commands

abbrev pub view_entry : Entry → trees.Entry
view_entry e = trees.entry (view_literal e.string) (option_map string_bytes e.condition)

-- an among, a row and a group, before they become part of a tree; a joined command is its joiner and itself
abbrev pub AmongView : Type 0
AmongView = trees.Starter × trees.Groups

abbrev pub RowView : Type 0
RowView = trees.Command × trees.Others

pub record GroupView : Type 0 where
  pub first : trees.Entry
  pub others : List trees.Entry
  pub rows : trees.Rows

abbrev pub rows_of : List RowView → trees.Rows
rows_of rs = foldr (λ r. trees.row r.0 r.1) trees.no_rows rs

abbrev pub among_step : Among-F trees.Command AmongView GroupView (Joiner × trees.Command) RowView → AmongView
among_step a =
    let groups = foldr (λ g. trees.group g.first g.others g.rows) (trees.bare (map view_entry a.bare.items)) a.groups.items in
    (option_map_or (λ rs. trees.starter (rows_of rs.items)) a.starter trees.no_starter, groups)

abbrev pub command_step : Command-F trees.Command AmongView GroupView (Joiner × trees.Command) RowView → trees.Command
command_step (Command-F.Bracket rs) = trees.bracket (rows_of rs.items)
command_step (Command-F.Simple s) = trees.simple_ s
command_step (Command-F.Literal l) = trees.literal_ (view_literal l)
command_step (Command-F.Name n) = trees.name_ (string_bytes n)
command_step (Command-F.Non with_minus n) = trees.non_ with_minus (string_bytes n)
command_step (Command-F.Prefixed p c) = trees.prefixed p c.value
command_step (Command-F.Counted n e c) = trees.counted n (view_expression e) c.value
command_step (Command-F.Move m e) = trees.move_ m (view_expression e)
command_step (Command-F.Named x n) = trees.named x (string_bytes n)
command_step (Command-F.Splice x a) = trees.splice_ x (view_argument a)
command_step (Command-F.SetLimit b c) = trees.setlimit_ b.value c.value
command_step (Command-F.Assign n o e) = trees.assign_ (string_bytes n) o (view_expression e)
command_step (Command-F.Compare n o e) = trees.compare_ (string_bytes n) o (view_expression e)
command_step (Command-F.CompareValues e o f) = trees.compare_values_ (view_expression e) o (view_expression f)
command_step (Command-F.Among a) = trees.among_ a.0 a.1

abbrev pub group_step : Group-F trees.Command AmongView GroupView (Joiner × trees.Command) RowView → GroupView
group_step g = record { first = view_entry g.first; others = map view_entry g.others.items; rows = rows_of g.rows.items }

abbrev pub row_step : RowOfCommands-F trees.Command AmongView GroupView (Joiner × trees.Command) RowView → RowView
row_step r = (r.first, foldr (λ o. trees.joined o.0 o.1) trees.no_others r.others.items)

abbrev pub view_among : Among → AmongView
view_among =
    fold-Among trees.Command AmongView GroupView (Joiner × trees.Command) RowView
    command_step among_step group_step (λ o. (o.joiner, o.command)) row_step

abbrev pub view_command : Command → trees.Command
view_command =
    fold-Command trees.Command AmongView GroupView (Joiner × trees.Command) RowView
    command_step among_step group_step (λ o. (o.joiner, o.command)) row_step

abbrev pub view_row : Row → RowView
view_row =
    fold-RowOfCommands trees.Command AmongView GroupView (Joiner × trees.Command) RowView
    command_step among_step group_step (λ o. (o.joiner, o.command)) row_step

-- ---- items

abbrev pub view_term : Term → trees.Term
view_term x = trees.term x.operator (view_argument x.argument)

abbrev pub view_plain : Plain → trees.Plain
view_plain (plains.Declaration k ns) = trees.declaration k (map string_bytes ns.items)
view_plain (plains.StringEscapes a b) = trees.escapes a b
view_plain (plains.StringDef n b l) = trees.macro (string_bytes n) b (view_literal l)
view_plain (plains.Routine n r) = trees.routine (string_bytes n) (view_row r).0 (view_row r).1
view_plain (plains.Grouping g) = trees.grouping (string_bytes g.name) (view_argument g.first) (map view_term g.others.items)

abbrev pub view_item : Item → trees.Item
view_item (items.Plain p) = trees.plain (view_plain p)
view_item (items.BackwardMode ps) = trees.backward (map view_plain ps.items)

abbrev pub view_items : List Item → List trees.Item
view_items is = map view_item is
