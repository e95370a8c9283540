use Rattle.std.proofs.Common.{◌≡◌, drop}
use Rattle.sbl_ast.specs.View.{view_items}
use Rattle.sbl_resolver.specs.Bodies.{body_in}
use Rattle.sbl_resolver.proofs.bodies.body_in.Given as goal

abbrev pub invariant-loop-item : goal.invariant-loop-item
invariant-loop-item l = body_in l.name (view_items (drop l.item-index l.items)) ≡ body_in l.name (view_items l.items)
