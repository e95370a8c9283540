use Rattle.std.proofs.Common.{◌∙◌, ◌+◌, List, ap, drop, map, refl, sym}
use Rattle.sbl_ast.specs.Order.{view_in_mode}
use Rattle.sbl_ast.specs.declared.order.ItemInMode.{ItemInMode}
use Rattle.sbl_compiler.specs.NumberedAmongs.{found_after}
use Rattle.sbl_compiler.specs.NumberedView.{view_found, view_names}
use Rattle.sbl_compiler.proofs.Loops.{at_rest}
use Rattle.sbl_compiler.proofs.amongs.amongs_of.Goals as goal

pub loop-item-preserved : goal.loop-item-preserved
loop-item-preserved c =
    let ns = view_names c.args.names.now in
    let items = c.args.items.now in
    let i = c.loop-item.item-index in
    ap (found_after ns (map view_in_mode (drop (i + 1) items))) c.in_ok-find_plain.ensures
    ∙ ap (λ (xs : List ItemInMode). found_after ns (map view_in_mode xs) (map view_found c.loop-item.all.items)) (sym (at_rest items _ i c.item-item.result refl c.loop-item-test.true c.item-item.is))
    ∙ c.loop-item.invariant
