use Rattle.std.proofs.Common.{◌≡◌, ◌++◌, drop, map, if◌then◌else◌}
use Rattle.sbl_ast.specs.View.{view_plain}
use Rattle.sbl_script.specs.Edits as spec
use Rattle.sbl_script.specs.Parts.{view_part}
use Rattle.sbl_script.proofs.edits.plains_with.Given as goal

abbrev pub invariant-loop-plain : goal.invariant-loop-plain
invariant-loop-plain l =
    let rest = map view_plain (drop l.plain-index l.plains) in
    map view_plain l.copies.items ++ (if l.is_put then rest else spec.plains_with (spec.changes (view_part l.part)) (view_plain l.new) rest) ≡ spec.plains_with (spec.changes (view_part l.part)) (view_plain l.new) (map view_plain l.plains)
