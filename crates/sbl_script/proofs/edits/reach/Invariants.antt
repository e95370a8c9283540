use Rattle.std.proofs.Common.{◌≡◌, drop}
use Rattle.sbl_ast.specs.View.{view_items}
use Rattle.sbl_script.specs.Edits as spec
use Rattle.sbl_script.specs.Parts.{view_part}
use Rattle.sbl_script.specs.Homes as homes
use Rattle.sbl_script.proofs.edits.reach.Given as goal

abbrev pub invariant-loop-item : goal.invariant-loop-item
invariant-loop-item l = homes.walk_to (spec.changes (view_part l.part)) (view_items (drop l.item-index l.items)) l.escapes ≡ homes.walk_to (spec.changes (view_part l.part)) (view_items l.items) l.initial.escapes
