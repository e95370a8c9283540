use Rattle.std.proofs.Common.{◌≡◌, ◌++◌, drop, if◌then◌else◌}
use Rattle.sbl_ast.specs.View.{view_items, view_plain}
use Rattle.sbl_script.specs.Edits as spec
use Rattle.sbl_script.specs.Parts.{view_part}
use Rattle.sbl_script.proofs.edits.items_with.Given as goal

abbrev pub invariant-loop-item : goal.invariant-loop-item
invariant-loop-item l =
    let rest = view_items (drop l.item-index l.items) in
    view_items l.copies.items ++ (if l.is_put then rest else spec.items_with (spec.changes (view_part l.part)) (view_plain l.new) rest) ≡ spec.items_with (spec.changes (view_part l.part)) (view_plain l.new) (view_items l.items)
