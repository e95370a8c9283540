use Rattle.std.proofs.Common.{◌≡◌, drop, map}
use Rattle.sbl_ast.specs.View.{view_plain}
use Rattle.sbl_script.specs.Edits as spec
use Rattle.sbl_script.specs.Parts.{view_part}
use Rattle.sbl_script.specs.Homes as homes
use Rattle.sbl_script.proofs.edits.first_in.Given as goal

abbrev pub invariant-loop-plain : goal.invariant-loop-plain
invariant-loop-plain l = homes.first_in (spec.changes (view_part l.part)) (map view_plain (drop l.plain-index l.plains)) ≡ homes.first_in (spec.changes (view_part l.part)) (map view_plain l.plains)
