-- The next value of a loop over a part of a tree. A loop has its list as `seen`.
use Rattle.std.proofs.Common.{◌≡◌, ◌∙◌, ◌∷◌, ◌++◌, [], ◌+◌, ◌<◌, ℕ, List, Result, Ok, Err, IfOk, append_assoc, sym, ap, drop, get_or, length, map}
use Rattle.std.proofs.lemmas.List.{drop_more, map_push}
use Rattle.sbl_ast.specs.Tree as trees
use Rattle.sbl_ast.specs.View.{GroupView, factor_step, view_command, view_entry, view_row}
use Rattle.sbl_ast.specs.inside.ViewParts.{NextCommandView, NextFactorView, NextProductView, expression_step, product_step, next_factor_step, next_product_step}
use Rattle.sbl_ast.specs.inside.ViewParts.{view_factor, view_groups, view_others, view_product, view_rows, view_scales, view_sums}
use Rattle.sbl_ast.specs.declared.tree.Group.{Group, out-Group}
use Rattle.sbl_ast.specs.declared.tree.NextCommand.{NextCommand}
use Rattle.sbl_ast.specs.declared.tree.NextFactor.{NextFactor}
use Rattle.sbl_ast.specs.declared.tree.NextProduct.{NextProduct, out-NextProduct}
use Rattle.sbl_ast.specs.declared.tree.RowOfCommands.{RowOfCommands}
use Rattle.sbl_ast.specs.declared.tree.Factor.TheFolds.{fold_out-NextFactor, fold_out-NextProduct}
use Rattle.sbl_ast.proofs.Views.{seen_group, seen_next_command}

pub at_rest : {X : Type 0} (xs seen : List X) (i : ℕ) (x : X) → seen ≡ xs → i < length seen → x ≡ get_or seen i x → drop i xs ≡ x ∷ drop (i + 1) xs
at_rest xs seen i x same lt is = ap (drop i) (sym same) ∙ drop_more seen i x lt ∙ ap (λ y. y ∷ drop (i + 1) seen) (sym is) ∙ ap (λ ys. x ∷ drop (i + 1) ys) same

pub rows_at : (rs seen : List RowOfCommands) (i : ℕ) (r : RowOfCommands) → seen ≡ rs → i < length seen → r ≡ get_or seen i r
    → view_rows (drop i rs) ≡ trees.row (view_row r).0 (view_row r).1 (view_rows (drop (i + 1) rs))
rows_at rs seen i r same lt is = ap view_rows (at_rest rs seen i r same lt is)

pub others_at : (os seen : List NextCommand) (i : ℕ) (o : NextCommand) → seen ≡ os → i < length seen → o ≡ get_or seen i o
    → view_others (drop i os) ≡ trees.joined o.joiner (view_command o.command) (view_others (drop (i + 1) os))
others_at os seen i o same lt is =
    ap view_others (at_rest os seen i o same lt is) ∙ ap (λ (v : NextCommandView). trees.joined v.0 v.1 (view_others (drop (i + 1) os))) (seen_next_command o)

pub groups_at : (gs seen : List Group) (i : ℕ) (g : Group) (bare : List trees.Entry) → seen ≡ gs → i < length seen → g ≡ get_or seen i g
    → view_groups (drop i gs) bare ≡ trees.group (view_entry (out-Group g).first) (map view_entry (out-Group g).others.items) (view_rows (out-Group g).rows.items) (view_groups (drop (i + 1) gs) bare)
groups_at gs seen i g bare same lt is =
    ap (λ (xs : List Group). view_groups xs bare) (at_rest gs seen i g same lt is)
    ∙ ap (λ (v : GroupView). trees.group v.first v.others v.rows (view_groups (drop (i + 1) gs) bare)) (seen_group g)

pub sums_at : (ss seen : List NextProduct) (i : ℕ) (s : NextProduct) → seen ≡ ss → i < length seen → s ≡ get_or seen i s
    → view_sums (drop i ss) ≡ trees.sum (out-NextProduct s).operator (view_product (out-NextProduct s).product) (view_sums (drop (i + 1) ss))
sums_at ss seen i s same lt is =
    ap view_sums (at_rest ss seen i s same lt is)
    ∙ ap (λ (v : NextProductView). trees.sum v.0 v.1 (view_sums (drop (i + 1) ss)))
    (fold_out-NextProduct trees.Factor trees.Expression NextFactorView NextProductView trees.Product factor_step expression_step next_factor_step next_product_step product_step s)

pub scales_at : (ss seen : List NextFactor) (i : ℕ) (s : NextFactor) → seen ≡ ss → i < length seen → s ≡ get_or seen i s
    → view_scales (drop i ss) ≡ trees.scale s.operator (view_factor s.factor) (view_scales (drop (i + 1) ss))
scales_at ss seen i s same lt is =
    ap view_scales (at_rest ss seen i s same lt is)
    ∙ ap (λ (v : NextFactorView). trees.scale v.0 v.1 (view_scales (drop (i + 1) ss)))
    (fold_out-NextFactor trees.Factor trees.Expression NextFactorView NextProductView trees.Product factor_step expression_step next_factor_step next_product_step product_step s)

-- the turn of a loop that walks over rows in a state, as its invariant has it; then the same over joined commands and over groups
pub next_row : {S R : Type 0} (walk : trees.Rows → S → R) (rs seen : List RowOfCommands) (i : ℕ) (r : RowOfCommands) (new made at : S) (end : R) → seen ≡ rs → i < length seen → r ≡ get_or seen i r
    → new ≡ made → walk (view_rows (drop (i + 1) rs)) made ≡ walk (trees.row (view_row r).0 (view_row r).1 (view_rows (drop (i + 1) rs))) at → walk (view_rows (drop i rs)) at ≡ end → walk (view_rows (drop (i + 1) rs)) new ≡ end
next_row walk rs seen i r new made at end same lt is turn step so = ap (walk (view_rows (drop (i + 1) rs))) turn ∙ step ∙ ap (λ (x : trees.Rows). walk x at) (sym (rows_at rs seen i r same lt is)) ∙ so

pub next_joined : {S R : Type 0} (walk : trees.Others → S → R) (os seen : List NextCommand) (i : ℕ) (o : NextCommand) (new made at : S) (end : R) → seen ≡ os → i < length seen → o ≡ get_or seen i o
    → new ≡ made → walk (view_others (drop (i + 1) os)) made ≡ walk (trees.joined o.joiner (view_command o.command) (view_others (drop (i + 1) os))) at → walk (view_others (drop i os)) at ≡ end → walk (view_others (drop (i + 1) os)) new ≡ end
next_joined walk os seen i o new made at end same lt is turn step so = ap (walk (view_others (drop (i + 1) os))) turn ∙ step ∙ ap (λ (x : trees.Others). walk x at) (sym (others_at os seen i o same lt is)) ∙ so

-- what an `Ok` is made of equals what its value equals
pub ok_equal : {X E Y : Type 0} (r : Result X E) (f : X → Y) (y z : Y) → IfOk r (λ x. f x ≡ y) → y ≡ z → IfOk r (λ x. f x ≡ z)
ok_equal (Ok x) f y z h e = h ∙ e
ok_equal (Err g) f y z h e = h

-- what one value more adds to those that were made
pub one_more : {X Y : Type 0} (f : X → Y) (old new : List X) (x : X) (y : Y) (rest : List Y) → new ≡ old ++ x ∷ [] → f x ≡ y → map f new ++ rest ≡ map f old ++ y ∷ rest
one_more f old new x y rest more same =
    ap (λ l. map f l ++ rest) more ∙ ap (λ l. l ++ rest) (map_push f old x) ∙ append_assoc (map f old) (f x ∷ []) rest ∙ ap (λ z. map f old ++ z ∷ rest) same
