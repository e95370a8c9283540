use Rattle.std.proofs.Common.{◌∙◌, ◌+◌, List, ap, drop, map, refl, sym}
use Rattle.sbl_ast.specs.Order.{view_in_mode}
use Rattle.sbl_ast.specs.View.{view_plain}
use Rattle.sbl_ast.specs.declared.order.ItemInMode.{ItemInMode}
use Rattle.sbl_compiler.specs.NumberedItems.{Position, past_plain, routines_after}
use Rattle.sbl_compiler.specs.NumberedView.{names_in, place_in, routine_in}
use Rattle.sbl_program.specs.Program as programs
use Rattle.sbl_compiler.proofs.Loops.{at_rest}
use Rattle.sbl_compiler.proofs.compiler.Compiler.routines_of.Goals as goal

pub loop-item-preserved : goal.loop-item-preserved
loop-item-preserved c =
    let self = c.args.self.now in
    let ns = names_in self in
    let items = c.args.items.now in
    let i = c.loop-item.item-index in
    let rest = map view_in_mode (drop (i + 1) items) in
    let place = place_in self c.loop-item.place in
    let before = map (routine_in self) c.loop-item.routines.items in
    ap (λ (p : Position). routines_after ns rest p (map (routine_in self) c.add_routine.new.routines.items)) c.in_ok-add_routine.ensures.following
    ∙ ap (λ (rs : List programs.Routine). routines_after ns rest (past_plain (view_plain c.item-item.result.plain.now) place) rs) c.in_ok-add_routine.ensures.made
    ∙ ap (λ (xs : List ItemInMode). routines_after ns (map view_in_mode xs) place before) (sym (at_rest items _ i c.item-item.result refl c.loop-item-test.true c.item-item.is))
    ∙ c.loop-item.invariant
