-- The views of parts of a tree, which functions that read or copy a tree use, and names for parts of View.antt.
use Rattle.std.specs.Prelude.{ℕ, List, map, Option, option_map, String, string_bytes}
use Rattle.std.specs.Option.{option_map_or}
use Rattle.sbl_ast.specs.Folds.{foldr}
use Rattle.std.specs.Global.{Global, Vec}
use Rattle.sbl_ast.specs.declared.tree.Expression.{Expression}
use Rattle.sbl_ast.specs.declared.tree.NextProduct.{NextProduct}
use Rattle.sbl_ast.specs.declared.tree.Product.{Product}
use Rattle.sbl_ast.specs.declared.tree.NextFactor.{NextFactor}
use Rattle.sbl_ast.specs.declared.tree.Factor.{Factor}
use Rattle.sbl_ast.specs.declared.tree.Factor.TheOpen.{Expression-F, NextProduct-F, NextFactor-F, Product-F}
use Rattle.sbl_ast.specs.declared.tree.Command.TheOpen.{NextCommand-F}
use Rattle.sbl_ast.specs.declared.tree.Factor.TheFolds.{fold-NextProduct, fold-Factor, fold-Product, fold-NextFactor}
use Rattle.sbl_ast.specs.declared.tree.Command.{Command}
use Rattle.sbl_ast.specs.declared.tree.Group.{Group}
use Rattle.sbl_ast.specs.declared.tree.NextCommand.{NextCommand}
use Rattle.sbl_ast.specs.declared.tree.RowOfCommands.{RowOfCommands as Row}
use Rattle.sbl_ast.specs.declared.tree.Command.TheFolds.{fold-Group, fold-NextCommand}
use Rattle.sbl_ast.specs.declared.tree.Entry.{Entry}
use Rattle.sbl_ast.specs.declared.tree.Joiner.{Joiner}
use Rattle.sbl_ast.specs.declared.tree.Additive.{Additive}
use Rattle.sbl_ast.specs.declared.tree.Multiplicative.{Multiplicative}
use Rattle.sbl_ast.specs.Tree as trees
use Rattle.sbl_ast.specs.View.{AmongView, GroupView, RowView, among_step, command_step}
use Rattle.sbl_ast.specs.View.{factor_step, group_step, row_step, rows_of, view_row}

-- ---- names for parts of View.antt

abbrev pub NextProductView : Type 0
NextProductView = Additive × trees.Product

abbrev pub NextFactorView : Type 0
NextFactorView = Multiplicative × trees.Factor

abbrev pub NextCommandView : Type 0
NextCommandView = Joiner × trees.Command

abbrev pub expression_step : Expression-F trees.Factor trees.Expression NextFactorView NextProductView trees.Product → trees.Expression
expression_step e = trees.expression e.first (foldr (λ s. trees.sum s.0 s.1) trees.no_sums e.others.items)

abbrev pub product_step : Product-F trees.Factor trees.Expression NextFactorView NextProductView trees.Product → trees.Product
product_step p = trees.product p.first (foldr (λ s. trees.scale s.0 s.1) trees.no_scales p.others.items)

-- one level, with the view of each child
abbrev pub next_product_step : NextProduct-F trees.Factor trees.Expression NextFactorView NextProductView trees.Product → NextProductView
next_product_step a = (a.operator, a.product)

abbrev pub next_factor_step : NextFactor-F trees.Factor trees.Expression NextFactorView NextProductView trees.Product → NextFactorView
next_factor_step s = (s.operator, s.factor)

abbrev pub next_command_step : NextCommand-F trees.Command AmongView GroupView NextCommandView RowView → NextCommandView
next_command_step o = (o.joiner, o.command)

abbrev pub view_next_product : NextProduct → NextProductView
view_next_product =
    fold-NextProduct trees.Factor trees.Expression NextFactorView NextProductView trees.Product
    factor_step expression_step next_factor_step next_product_step product_step

abbrev pub view_factor : Factor → trees.Factor
view_factor =
    fold-Factor trees.Factor trees.Expression NextFactorView NextProductView trees.Product
    factor_step expression_step next_factor_step next_product_step product_step

abbrev pub view_product : Product → trees.Product
view_product =
    fold-Product trees.Factor trees.Expression NextFactorView NextProductView trees.Product
    factor_step expression_step next_factor_step next_product_step product_step

abbrev pub view_next_factor : NextFactor → NextFactorView
view_next_factor =
    fold-NextFactor trees.Factor trees.Expression NextFactorView NextProductView trees.Product
    factor_step expression_step next_factor_step next_product_step product_step

abbrev pub view_sums : List NextProduct → trees.Sums
view_sums ss = foldr (λ s. trees.sum s.0 s.1) trees.no_sums (map view_next_product ss)

abbrev pub view_scales : List NextFactor → trees.Scales
view_scales ss = foldr (λ s. trees.scale s.0 s.1) trees.no_scales (map view_next_factor ss)

abbrev pub view_group : Group → GroupView
view_group = fold-Group trees.Command AmongView GroupView NextCommandView RowView command_step among_step group_step next_command_step row_step

abbrev pub view_next_command : NextCommand → NextCommandView
view_next_command =
    fold-NextCommand trees.Command AmongView GroupView NextCommandView RowView command_step among_step group_step next_command_step row_step

-- the rows that were read so far
abbrev pub view_rows : List Row → trees.Rows
view_rows rs = rows_of (map view_row rs)

abbrev pub view_others : List NextCommand → trees.Others
view_others os = foldr (λ o. trees.joined o.0 o.1) trees.no_others (map view_next_command os)

abbrev pub view_groups : List Group → List trees.Entry → trees.Groups
view_groups gs es = foldr (λ g. trees.group g.first g.others g.rows) (trees.bare es) (map view_group gs)

abbrev pub view_starter : Option (Vec Row) → trees.Starter
view_starter s = option_map_or (λ rs. trees.starter (view_rows rs.items)) s trees.no_starter

abbrev pub sums_of : List NextProductView → trees.Sums
sums_of ss = foldr (λ s. trees.sum s.0 s.1) trees.no_sums ss

abbrev pub scales_of : List NextFactorView → trees.Scales
scales_of ss = foldr (λ s. trees.scale s.0 s.1) trees.no_scales ss

abbrev pub view_name : Option (String Global) → Option (List ℕ)
view_name n = option_map string_bytes n

abbrev pub others_of : List NextCommandView → trees.Others
others_of os = foldr (λ o. trees.joined o.0 o.1) trees.no_others os

abbrev pub groups_of : List GroupView → List trees.Entry → trees.Groups
groups_of gs es = foldr (λ g. trees.group g.first g.others g.rows) (trees.bare es) gs

abbrev pub starter_of : Option (Vec RowView) → trees.Starter
starter_of s = option_map_or (λ rs. trees.starter (rows_of rs.items)) s trees.no_starter
