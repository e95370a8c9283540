use Rattle.std.proofs.Common.{◌≡◌, drop, map, [], false}
use Rattle.sbl_compiler.specs.NumberedItems.{routines_after}
use Rattle.sbl_ast.specs.Order.{view_in_mode}
use Rattle.sbl_compiler.specs.NumberedView.{names_in, place_in, routine_in}
use Rattle.sbl_compiler.proofs.compiler.Compiler.routines_of.Given as goal

abbrev pub invariant-loop-item : goal.invariant-loop-item
invariant-loop-item l = routines_after (names_in l.self) (map view_in_mode (drop l.item-index l.items)) (place_in l.self l.place) (map (routine_in l.self) l.routines.items) ≡ routines_after (names_in l.self) (map view_in_mode l.items) (place_in l.self (record { next = 0; following = 0; waits = false })) []
