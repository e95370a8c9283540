-- The view of each variant.
use Rattle.std.proofs.Common.{◌≡◌, ℕ, Bool, map, Option, Some, None, string_bytes, sym, ap, ◌∙◌}
use Rattle.std.specs.Prelude.{String}
use Rattle.std.specs.Global.{Global, Vec, Box}
use Rattle.sbl_ast.specs.declared.tree.Simple.{Simple}
use Rattle.sbl_ast.specs.declared.tree.Prefix.{Prefix}
use Rattle.sbl_ast.specs.declared.tree.Count.{Count}
use Rattle.sbl_ast.specs.declared.tree.Move.{Move}
use Rattle.sbl_ast.specs.declared.tree.Naming.{Naming}
use Rattle.sbl_ast.specs.declared.tree.Splice.{Splice}
use Rattle.sbl_ast.specs.declared.tree.Assignment.{Assignment}
use Rattle.sbl_ast.specs.declared.tree.Comparison.{Comparison}
use Rattle.sbl_ast.specs.declared.tree.Constant.{Constant}
use Rattle.sbl_ast.specs.declared.tree.Literal.{Literal}
use Rattle.sbl_ast.specs.declared.tree.Argument.{Argument}
use Rattle.sbl_ast.specs.declared.tree.Expression.{Expression}
use Rattle.sbl_ast.specs.declared.tree.NextProduct.{NextProduct}
use Rattle.sbl_ast.specs.declared.tree.Product.{Product}
use Rattle.sbl_ast.specs.declared.tree.NextFactor.{NextFactor}
use Rattle.sbl_ast.specs.declared.tree.Factor.{Factor}
use Rattle.sbl_ast.specs.declared.tree.Factor.TheVariants as factors
use Rattle.sbl_ast.specs.declared.tree.Factor.TheOpen.{Factor-F, NextProduct-F, Expression-F, Product-F, NextFactor-F}
use Rattle.sbl_ast.specs.declared.tree.Factor.TheViews.{roll-NextProduct, roll-Expression, roll-Product, roll-NextFactor}
use Rattle.sbl_ast.specs.declared.tree.Factor.TheFolds.{fold-roll-Factor, fold-roll-NextProduct, fold-roll-Expression, fold-roll-Product, fold-roll-NextFactor}
use Rattle.sbl_ast.specs.declared.tree.Command.{Command}
use Rattle.sbl_ast.specs.declared.tree.Command.TheVariants as commands
use Rattle.sbl_ast.specs.declared.tree.Command.TheOpen.{Command-F, Group-F, NextCommand-F, RowOfCommands-F}
use Rattle.sbl_ast.specs.declared.tree.Command.TheViews.{roll-Among, roll-Group, roll-NextCommand, roll-RowOfCommands, out-Among, out-Group}
use Rattle.sbl_ast.specs.declared.tree.Command.TheFolds.{fold-roll-Command, fold-roll-Among, fold-roll-Group, fold-roll-NextCommand, fold-roll-RowOfCommands, fold_out-Among, fold_out-Group, fold_out-NextCommand}
use Rattle.sbl_ast.specs.declared.tree.Among.{Among}
use Rattle.sbl_ast.specs.declared.tree.Group.{Group}
use Rattle.sbl_ast.specs.declared.tree.NextCommand.{NextCommand}
use Rattle.sbl_ast.specs.declared.tree.RowOfCommands.{RowOfCommands as Row}
use Rattle.sbl_ast.specs.declared.tree.Entry.{Entry}
use Rattle.sbl_ast.specs.Tree as trees
use Rattle.sbl_ast.specs.View.{view_literal, view_argument, factor_step, view_expression, view_entry, AmongView, RowView, GroupView, among_step, command_step, group_step, row_step, view_among, view_command, view_row}
use Rattle.sbl_ast.specs.inside.ViewParts.{NextProductView, NextFactorView, expression_step, product_step, NextCommandView, next_product_step, next_factor_step, next_command_step}
use Rattle.sbl_ast.specs.inside.ViewParts.{view_next_product, view_factor, view_product, view_next_factor, view_sums, view_scales, view_group, view_next_command, view_rows, view_others, view_groups, view_starter}

pub factor_Minus : (b : Box Factor) → view_factor (factors.Minus b) ≡ trees.negated (view_factor b.value)
factor_Minus b = ap view_factor (sym (factors.rolls-Minus b)) ∙ fold-roll-Factor trees.Factor trees.Expression NextFactorView NextProductView trees.Product factor_step expression_step next_factor_step next_product_step product_step (Factor-F.Minus b)

pub factor_Bracket : (b : Box Expression) → view_factor (factors.Bracket b) ≡ trees.bracketed (view_expression b.value)
factor_Bracket b = ap view_factor (sym (factors.rolls-Bracket b)) ∙ fold-roll-Factor trees.Factor trees.Expression NextFactorView NextProductView trees.Product factor_step expression_step next_factor_step next_product_step product_step (Factor-F.Bracket b)

pub factor_Number : (n : ℕ) → view_factor (factors.Number n) ≡ trees.numeral n
factor_Number n = ap view_factor (sym (factors.rolls-Number n)) ∙ fold-roll-Factor trees.Factor trees.Expression NextFactorView NextProductView trees.Product factor_step expression_step next_factor_step next_product_step product_step (Factor-F.Number n)

pub factor_Name : (n : String Global) → view_factor (factors.Name n) ≡ trees.variable (string_bytes n)
factor_Name n = ap view_factor (sym (factors.rolls-Name n)) ∙ fold-roll-Factor trees.Factor trees.Expression NextFactorView NextProductView trees.Product factor_step expression_step next_factor_step next_product_step product_step (Factor-F.Name n)

pub factor_Constant : (x : Constant) → view_factor (factors.Constant x) ≡ trees.fixed x
factor_Constant x = ap view_factor (sym (factors.rolls-Constant x)) ∙ fold-roll-Factor trees.Factor trees.Expression NextFactorView NextProductView trees.Product factor_step expression_step next_factor_step next_product_step product_step (Factor-F.Constant x)

pub factor_LenOf : (a : Argument) → view_factor (factors.LenOf a) ≡ trees.length_of (view_argument a)
factor_LenOf a = ap view_factor (sym (factors.rolls-LenOf a)) ∙ fold-roll-Factor trees.Factor trees.Expression NextFactorView NextProductView trees.Product factor_step expression_step next_factor_step next_product_step product_step (Factor-F.LenOf a)

pub view_of_next_product : (r : NextProduct-F Factor Expression NextFactor NextProduct Product) → view_next_product (roll-NextProduct r) ≡ (r.operator, view_product r.product)
view_of_next_product r = fold-roll-NextProduct trees.Factor trees.Expression NextFactorView NextProductView trees.Product factor_step expression_step next_factor_step next_product_step product_step r

pub view_of_expression : (r : Expression-F Factor Expression NextFactor NextProduct Product) → view_expression (roll-Expression r) ≡ trees.expression (view_product r.first) (view_sums r.others.items)
view_of_expression r = fold-roll-Expression trees.Factor trees.Expression NextFactorView NextProductView trees.Product factor_step expression_step next_factor_step next_product_step product_step r

pub view_of_product : (r : Product-F Factor Expression NextFactor NextProduct Product) → view_product (roll-Product r) ≡ trees.product (view_factor r.first) (view_scales r.others.items)
view_of_product r = fold-roll-Product trees.Factor trees.Expression NextFactorView NextProductView trees.Product factor_step expression_step next_factor_step next_product_step product_step r

pub view_of_next_factor : (r : NextFactor-F Factor Expression NextFactor NextProduct Product) → view_next_factor (roll-NextFactor r) ≡ (r.operator, view_factor r.factor)
view_of_next_factor r = fold-roll-NextFactor trees.Factor trees.Expression NextFactorView NextProductView trees.Product factor_step expression_step next_factor_step next_product_step product_step r

pub command_Bracket : (v : Vec Row) → view_command (commands.Bracket v) ≡ trees.bracket (view_rows v.items)
command_Bracket v = ap view_command (sym (commands.rolls-Bracket v)) ∙ fold-roll-Command trees.Command AmongView GroupView NextCommandView RowView command_step among_step group_step next_command_step row_step (Command-F.Bracket v)

pub command_Simple : (x : Simple) → view_command (commands.Simple x) ≡ trees.simple_ x
command_Simple x = ap view_command (sym (commands.rolls-Simple x)) ∙ fold-roll-Command trees.Command AmongView GroupView NextCommandView RowView command_step among_step group_step next_command_step row_step (Command-F.Simple x)

pub command_Literal : (l : Literal) → view_command (commands.Literal l) ≡ trees.literal_ (view_literal l)
command_Literal l = ap view_command (sym (commands.rolls-Literal l)) ∙ fold-roll-Command trees.Command AmongView GroupView NextCommandView RowView command_step among_step group_step next_command_step row_step (Command-F.Literal l)

pub command_Name : (n : String Global) → view_command (commands.Name n) ≡ trees.name_ (string_bytes n)
command_Name n = ap view_command (sym (commands.rolls-Name n)) ∙ fold-roll-Command trees.Command AmongView GroupView NextCommandView RowView command_step among_step group_step next_command_step row_step (Command-F.Name n)

pub command_Non : (b : Bool) (n : String Global) → view_command (commands.Non b n) ≡ trees.non_ b (string_bytes n)
command_Non b n = ap view_command (sym (commands.rolls-Non b n)) ∙ fold-roll-Command trees.Command AmongView GroupView NextCommandView RowView command_step among_step group_step next_command_step row_step (Command-F.Non b n)

pub command_Prefixed : (p : Prefix) (b : Box Command) → view_command (commands.Prefixed p b) ≡ trees.prefixed p (view_command b.value)
command_Prefixed p b = ap view_command (sym (commands.rolls-Prefixed p b)) ∙ fold-roll-Command trees.Command AmongView GroupView NextCommandView RowView command_step among_step group_step next_command_step row_step (Command-F.Prefixed p b)

pub command_Counted : (n : Count) (e : Expression) (b : Box Command) → view_command (commands.Counted n e b) ≡ trees.counted n (view_expression e) (view_command b.value)
command_Counted n e b = ap view_command (sym (commands.rolls-Counted n e b)) ∙ fold-roll-Command trees.Command AmongView GroupView NextCommandView RowView command_step among_step group_step next_command_step row_step (Command-F.Counted n e b)

pub command_Move : (m : Move) (e : Expression) → view_command (commands.Move m e) ≡ trees.move_ m (view_expression e)
command_Move m e = ap view_command (sym (commands.rolls-Move m e)) ∙ fold-roll-Command trees.Command AmongView GroupView NextCommandView RowView command_step among_step group_step next_command_step row_step (Command-F.Move m e)

pub command_Named : (x : Naming) (n : String Global) → view_command (commands.Named x n) ≡ trees.named x (string_bytes n)
command_Named x n = ap view_command (sym (commands.rolls-Named x n)) ∙ fold-roll-Command trees.Command AmongView GroupView NextCommandView RowView command_step among_step group_step next_command_step row_step (Command-F.Named x n)

pub command_Edit : (x : Splice) (a : Argument) → view_command (commands.Splice x a) ≡ trees.splice_ x (view_argument a)
command_Edit x a = ap view_command (sym (commands.rolls-Splice x a)) ∙ fold-roll-Command trees.Command AmongView GroupView NextCommandView RowView command_step among_step group_step next_command_step row_step (Command-F.Splice x a)

pub command_SetLimit : (b : Box Command) (x : Box Command) → view_command (commands.SetLimit b x) ≡ trees.setlimit_ (view_command b.value) (view_command x.value)
command_SetLimit b x = ap view_command (sym (commands.rolls-SetLimit b x)) ∙ fold-roll-Command trees.Command AmongView GroupView NextCommandView RowView command_step among_step group_step next_command_step row_step (Command-F.SetLimit b x)

pub command_Assign : (n : String Global) (o : Assignment) (e : Expression) → view_command (commands.Assign n o e) ≡ trees.assign_ (string_bytes n) o (view_expression e)
command_Assign n o e = ap view_command (sym (commands.rolls-Assign n o e)) ∙ fold-roll-Command trees.Command AmongView GroupView NextCommandView RowView command_step among_step group_step next_command_step row_step (Command-F.Assign n o e)

pub command_Compare : (n : String Global) (o : Comparison) (e : Expression) → view_command (commands.Compare n o e) ≡ trees.compare_ (string_bytes n) o (view_expression e)
command_Compare n o e = ap view_command (sym (commands.rolls-Compare n o e)) ∙ fold-roll-Command trees.Command AmongView GroupView NextCommandView RowView command_step among_step group_step next_command_step row_step (Command-F.Compare n o e)

pub command_CompareValues : (e : Expression) (o : Comparison) (f : Expression) → view_command (commands.CompareValues e o f) ≡ trees.compare_values_ (view_expression e) o (view_expression f)
command_CompareValues e o f = ap view_command (sym (commands.rolls-CompareValues e o f)) ∙ fold-roll-Command trees.Command AmongView GroupView NextCommandView RowView command_step among_step group_step next_command_step row_step (Command-F.CompareValues e o f)

pub command_Among : (a : Among) → view_command (commands.Among a) ≡ trees.among_ (view_among a).0 (view_among a).1
command_Among a = ap view_command (sym (commands.rolls-Among a)) ∙ fold-roll-Command trees.Command AmongView GroupView NextCommandView RowView command_step among_step group_step next_command_step row_step (Command-F.Among a)

pub view_of_among : (x : Option (Vec Row)) (gs : Vec Group) (es : Vec Entry)
    → view_among (roll-Among (record { starter = x; groups = gs; bare = es })) ≡ (view_starter x, view_groups gs.items (map view_entry es.items))
view_of_among None gs es = fold-roll-Among trees.Command AmongView GroupView NextCommandView RowView command_step among_step group_step next_command_step row_step (record { starter = None; groups = gs; bare = es })
view_of_among (Some v) gs es = fold-roll-Among trees.Command AmongView GroupView NextCommandView RowView command_step among_step group_step next_command_step row_step (record { starter = Some v; groups = gs; bare = es })

pub view_of_group : (r : Group-F Command Among Group NextCommand Row) → view_group (roll-Group r) ≡ record { first = view_entry r.first; others = map view_entry r.others.items; rows = view_rows r.rows.items }
view_of_group r = fold-roll-Group trees.Command AmongView GroupView NextCommandView RowView command_step among_step group_step next_command_step row_step r

pub view_of_next_command : (r : NextCommand-F Command Among Group NextCommand Row) → view_next_command (roll-NextCommand r) ≡ (r.joiner, view_command r.command)
view_of_next_command r = fold-roll-NextCommand trees.Command AmongView GroupView NextCommandView RowView command_step among_step group_step next_command_step row_step r

pub view_of_row : (r : RowOfCommands-F Command Among Group NextCommand Row) → view_row (roll-RowOfCommands r) ≡ (view_command r.first, view_others r.others.items)
view_of_row r = fold-roll-RowOfCommands trees.Command AmongView GroupView NextCommandView RowView command_step among_step group_step next_command_step row_step r

-- the view of what was not built here
pub seen_next_command : (j : NextCommand) → view_next_command j ≡ (j.joiner, view_command j.command)
seen_next_command j = fold_out-NextCommand trees.Command AmongView GroupView NextCommandView RowView command_step among_step group_step next_command_step row_step j

pub seen_group : (g : Group) → view_group g ≡ record { first = view_entry (out-Group g).first; others = map view_entry (out-Group g).others.items; rows = view_rows (out-Group g).rows.items }
seen_group g = fold_out-Group trees.Command AmongView GroupView NextCommandView RowView command_step among_step group_step next_command_step row_step g

pub seen_unstarted : (a : Among) → (out-Among a).starter ≡ None → view_among a ≡ (trees.no_starter, view_groups (out-Among a).groups.items (map view_entry (out-Among a).bare.items))
seen_unstarted a h = rw h at (fold_out-Among trees.Command AmongView GroupView NextCommandView RowView command_step among_step group_step next_command_step row_step a)

pub seen_started : (a : Among) (v : Vec Row) → (out-Among a).starter ≡ Some v → view_among a ≡ (trees.starter (view_rows v.items), view_groups (out-Among a).groups.items (map view_entry (out-Among a).bare.items))
seen_started a v h = rw h at (fold_out-Among trees.Command AmongView GroupView NextCommandView RowView command_step among_step group_step next_command_step row_step a)
