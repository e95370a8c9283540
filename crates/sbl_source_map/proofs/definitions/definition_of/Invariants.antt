use Rattle.std.proofs.Common.{◌≡◌, drop}
use Rattle.sbl_ast.specs.View.{view_items}
use Rattle.sbl_script.specs.Homes as homes
use Rattle.sbl_source_map.specs.Definitions.{defines_name}
use Rattle.sbl_source_map.proofs.definitions.definition_of.Given as goal

abbrev pub invariant-loop-item : goal.invariant-loop-item
invariant-loop-item l = homes.first_passing (defines_name l.name) (view_items (drop l.item-index l.items)) ≡ homes.first_passing (defines_name l.name) (view_items l.items)
