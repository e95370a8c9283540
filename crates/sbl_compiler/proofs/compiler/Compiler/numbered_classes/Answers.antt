use Rattle.std.proofs.Common.{◌∙◌, ◌+◌, List, ap, drop, map, refl, sym}
use Rattle.sbl_ast.specs.Order.{view_in_mode}
use Rattle.sbl_ast.specs.declared.order.ItemInMode.{ItemInMode}
use Rattle.sbl_program.specs.CharacterClasses.{members}
use Rattle.sbl_compiler.specs.NumberedClasses as spec
use Rattle.sbl_compiler.specs.NumberedView.{names_in}
use Rattle.sbl_compiler.proofs.Loops.{at_rest}
use Rattle.sbl_compiler.proofs.compiler.Compiler.numbered_classes.Goals as goal

pub loop-item-preserved : goal.loop-item-preserved
loop-item-preserved c =
    let ns = names_in c.args.self.now in
    let items = c.args.items.now in
    let i = c.loop-item.item-index in
    ap (spec.numbered_classes ns (map view_in_mode (drop (i + 1) items))) c.in_ok-add_class.ensures
    ∙ ap (λ (xs : List ItemInMode). spec.numbered_classes ns (map view_in_mode xs) (map members c.loop-item.classes.items)) (sym (at_rest items _ i c.item-item.result refl c.loop-item-test.true c.item-item.is))
    ∙ c.loop-item.invariant
