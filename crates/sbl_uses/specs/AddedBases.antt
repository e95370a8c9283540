-- What a definition adds to the items that are touched.
use Rattle.std.specs.Prelude.{Bool, ◌&&◌, ◌||◌}
use Rattle.sbl_machine.specs.inside.BuiltFromParts.{built_on}
use Rattle.sbl_semantics.specs.TouchedItems.{same_item}
use Rattle.sbl_ast.specs.NamedParts.{Part', Grouping}
use Rattle.sbl_ast.specs.Tree.{Plain, grouping}

-- Whether an item is touched after what a definition adds: if it is a touched grouping, the groupings that its terms name
-- count as touched.
abbrev pub and_terms : Plain → (Part' → Bool) → Part' → Bool
and_terms (grouping r a ts) touched x = (touched (Grouping r) && built_on (λ k. same_item x (Grouping k)) a ts) || touched x
and_terms p touched x = touched x
