-- Marks of the parts of an among.
use Rattle.std.proofs.Common.{◌≡◌, Bool, false, nat_eq, List, [], ◌∷◌, length}
use Rattle.sbl_ast.specs.declared.tree.Group.{Group}
use Rattle.sbl_ast.specs.Tree as trees
use Rattle.sbl_ast.specs.inside.ViewParts.{view_groups}
use Rattle.sbl_resolver.specs.Occurrences.{is_empty}

pub has_groups : (gs : List Group) (es : List trees.Entry) (b : Bool) → b ≡ nat_eq (length gs) 0 → b ≡ false → b ≡ is_empty (view_groups gs es)
has_groups [] es b e f = absurd cc
has_groups (g ∷ gs) es b e f = f
