-- Another definition in the first of some items, or in one of the others.
use Rattle.std.proofs.Common.{◌≡◌, Bool, List, ◌∷◌, if◌then◌else◌, refl}
use Rattle.sbl_ast.specs.Tree.{Plain, Item, plain, backward}
use Rattle.sbl_script.specs.Edits.{items_with}
use Rattle.sbl_script.specs.Homes.{holds, item_with}

pub items_step : (p : Plain → Bool) (y : Plain) (i : Item) (is : List Item) → items_with p y (i ∷ is) ≡ (if holds p i then item_with p y i ∷ is else i ∷ items_with p y is)
items_step p y (plain x) is = refl
items_step p y (backward xs) is = refl
