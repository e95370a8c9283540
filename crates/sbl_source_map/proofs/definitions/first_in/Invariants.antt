use Rattle.std.proofs.Common.{◌≡◌, drop, map}
use Rattle.sbl_ast.specs.View.{view_plain}
use Rattle.sbl_script.specs.Homes as homes
use Rattle.sbl_source_map.specs.Definitions.{defines_name}
use Rattle.sbl_source_map.proofs.definitions.first_in.Given as goal

abbrev pub invariant-loop-plain : goal.invariant-loop-plain
invariant-loop-plain l = homes.first_in (defines_name l.name) (map view_plain (drop l.plain-index l.plains)) ≡ homes.first_in (defines_name l.name) (map view_plain l.plains)
