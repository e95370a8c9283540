use Rattle.std.proofs.Common.{◌≡◌, ◌++◌, drop, map}
use Rattle.sbl_ast.specs.View.{view_plain}
use Rattle.sbl_script.proofs.edits.copy_plains.Given as goal

abbrev pub invariant-loop-plain : goal.invariant-loop-plain
invariant-loop-plain l = map view_plain l.copies.items ++ map view_plain (drop l.plain-index l.plains) ≡ map view_plain l.plains
