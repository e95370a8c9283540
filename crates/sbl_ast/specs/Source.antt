-- A script: its items, and the name of the external that is run.
use Rattle.std.specs.Prelude.{ℕ, List}
use Rattle.sbl_ast.specs.Tree.{Item}

-- the items of a script in text order, and the name of the external that is run
pub record Source : Type 0 where
  pub items : List Item
  pub external : List ℕ
