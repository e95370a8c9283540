-- The bodies of routines.
use Rattle.std.specs.Prelude.{ℕ, List, [], ◌∷◌, Option, Some, None, if◌then◌else◌}
use Rattle.std.specs.Str.{bytes_eq}
use Rattle.sbl_ast.specs.Tree.{Item, plain, routine}
use Rattle.sbl_ast.specs.View.{RowView}

-- the body of the first routine of this name that is defined in forward mode
abbrev pub body_in : List ℕ → List Item → Option RowView
body_in name [] = None
body_in name (plain (routine n c os) ∷ is) = if bytes_eq name n then Some (c, os) else body_in name is
body_in name (_ ∷ is) = body_in name is
