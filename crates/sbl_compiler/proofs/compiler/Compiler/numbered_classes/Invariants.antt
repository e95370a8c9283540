use Rattle.std.proofs.Common.{◌≡◌, drop, map, []}
use Rattle.sbl_ast.specs.Order.{view_in_mode}
use Rattle.sbl_program.specs.CharacterClasses.{members}
use Rattle.sbl_compiler.specs.NumberedClasses as spec
use Rattle.sbl_compiler.specs.NumberedView.{names_in}
use Rattle.sbl_compiler.proofs.compiler.Compiler.numbered_classes.Given as goal

abbrev pub invariant-loop-item : goal.invariant-loop-item
invariant-loop-item l = spec.numbered_classes (names_in l.self) (map view_in_mode (drop l.item-index l.items)) (map members l.classes.items) ≡ spec.numbered_classes (names_in l.self) (map view_in_mode l.items) []
