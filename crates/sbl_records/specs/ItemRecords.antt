-- The records of items.
use Rattle.std.specs.Prelude.{ℕ, List, [], ◌∷◌, codes, decimal}
use Rattle.sbl_ast.specs.NamedParts.{Part', Routine, Among, Grouping}

-- the fields of an item: its kind, its name or that of its routine, and the number of an among
abbrev pub item_fields : Part' → List (List ℕ)
item_fields (Routine name) = codes "routine" ∷ name ∷ []
item_fields (Among name k) = codes "among" ∷ name ∷ decimal k ∷ []
item_fields (Grouping name) = codes "grouping" ∷ name ∷ []
