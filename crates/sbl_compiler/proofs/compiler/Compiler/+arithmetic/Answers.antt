use Rattle.std.proofs.Common.{◌∙◌, ◌+◌, ◌++◌, ap, drop, map, sym}
use Rattle.sbl_ast.specs.Tree as trees
use Rattle.sbl_ast.specs.inside.ViewParts.{view_factor, view_product, view_scales, view_sums}
use Rattle.sbl_ast.specs.declared.tree.NextProduct.{out-NextProduct}
use Rattle.sbl_program.specs.Chains.{AddedView, ScaledView}
use Rattle.sbl_program.specs.Program as programs
use Rattle.sbl_program.specs.ProgramOf.{view_next_factor, view_next_product}
use Rattle.sbl_compiler.specs.NumberedNumbers.{factor, product, scales_in, sums_in}
use Rattle.sbl_compiler.specs.NumberedView.{names_in}
use Rattle.sbl_compiler.proofs.Loops.{one_more, scales_at, sums_at}
use Rattle.sbl_compiler.proofs.compiler.Compiler.+arithmetic.Goals as goal

pub sums_of-loop-other-preserved : goal.sums_of-loop-other-preserved
sums_of-loop-other-preserved t c =
    let ns = names_in c.args.self.now in
    let others = c.args.others.now.items in
    let i = c.loop-other.other-index in
    let other = out-NextProduct c.other-item.result in
    let sofar = map view_next_product c.loop-other.sums.items in
    let made : AddedView = (other.operator, product ns (view_product other.product)) in
    let is_made = c.added_number.ensures ∙ ap (λ (n : programs.Arithmetic). let v : AddedView = (other.operator, n) in v) c.in-Ok.ensures in
    one_more view_next_product c.loop-other.sums.items c.push.new.self.items c.added_number.result made (sums_in ns (view_sums (drop (i + 1) others))) c.in-Ok-push.ensures.items is_made
    ∙ ap (λ (ss : trees.Sums). sofar ++ sums_in ns ss) (sym (sums_at others _ i c.other-item.result c.deref-other-items.ensures.value c.loop-other-test.true c.other-item.is))
    ∙ c.loop-other.invariant

pub scales_of-loop-other-preserved : goal.scales_of-loop-other-preserved
scales_of-loop-other-preserved t c =
    let ns = names_in c.args.self.now in
    let others = c.args.others.now.items in
    let i = c.loop-other.other-index in
    let other = c.other-item.result in
    let sofar = map view_next_factor c.loop-other.scales.items in
    let made : ScaledView = (other.operator, factor ns (view_factor other.factor)) in
    let is_made = c.scaled_number.ensures ∙ ap (λ (n : programs.Arithmetic). let v : ScaledView = (other.operator, n) in v) c.in-Ok.ensures in
    one_more view_next_factor c.loop-other.scales.items c.push.new.self.items c.scaled_number.result made (scales_in ns (view_scales (drop (i + 1) others))) c.in-Ok-push.ensures.items is_made
    ∙ ap (λ (ss : trees.Scales). sofar ++ scales_in ns ss) (sym (scales_at others _ i other c.deref-other-items.ensures.value c.loop-other-test.true c.other-item.is))
    ∙ c.loop-other.invariant
