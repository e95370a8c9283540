-- The items of a script in text order, each with its mode.
use Rattle.std.specs.Prelude.{List, [], ◌∷◌, ◌++◌, map}
use Rattle.sbl_ast.specs.Tree.{Plain, Item, plain, backward}
use Rattle.sbl_ast.specs.View.{view_plain}
use Rattle.sbl_ast.specs.declared.mode.Mode.{Mode}
use Rattle.sbl_ast.specs.declared.mode.Mode.TheVariants.{Forward, Backward}
use Rattle.sbl_ast.specs.declared.order.ItemInMode as declared

-- an item with its mode
pub record ItemInMode : Type 0 where
  pub mode : Mode
  pub plain : Plain

-- the items in text order; a `backwardmode` is replaced by its items
abbrev pub in_order : List Item → List ItemInMode
in_order [] = []
in_order (plain x ∷ is) = (record { mode = Forward; plain = x }) ∷ in_order is
in_order (backward xs ∷ is) = map (λ (x : Plain). record { mode = Backward; plain = x }) xs ++ in_order is

-- an item without memory addresses
abbrev pub view_in_mode : declared.ItemInMode → ItemInMode
view_in_mode x = record { mode = x.mode; plain = view_plain x.plain.now }
