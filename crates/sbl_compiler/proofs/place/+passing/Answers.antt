use Rattle.std.proofs.Common.{◌∙◌, ◌+◌, ap, drop, refl, sym}
use Rattle.sbl_ast.specs.Tree as trees
use Rattle.sbl_ast.specs.inside.ViewParts.{view_groups, view_rows}
use Rattle.sbl_ast.specs.declared.tree.Group.{out-Group}
use Rattle.sbl_compiler.specs.NumberedItems.{past_groups, past_others, past_rows}
use Rattle.sbl_compiler.specs.NumberedView.{view_place}
use Rattle.sbl_compiler.proofs.Loops.{groups_at, next_joined, next_row}
use Rattle.sbl_compiler.proofs.place.+passing.Goals as goal

pub past_rows-loop-row-preserved : goal.past_rows-loop-row-preserved
past_rows-loop-row-preserved t c =
    next_row past_rows c.args.rows.now.items _ c.loop-row.row-index c.row-item.result _ _ (view_place c.args.amongs.now.items c.loop-row.following) _
    c.deref-row-items.ensures.value c.loop-row-test.true c.row-item.is c.past_row-following.ensures refl c.loop-row.invariant

pub past_others-loop-joined-preserved : goal.past_others-loop-joined-preserved
past_others-loop-joined-preserved t c =
    next_joined past_others c.args.others.now.items _ c.loop-joined.joined-index c.joined-item.result _ _ (view_place c.args.amongs.now.items c.loop-joined.following) _
    c.deref-joined-items.ensures.value c.loop-joined-test.true c.joined-item.is c.past-following.ensures refl c.loop-joined.invariant

pub past_groups-loop-group-preserved : goal.past_groups-loop-group-preserved
past_groups-loop-group-preserved t c = λ bare.
    let groups = c.args.groups.now.items in
    let i = c.loop-group.group-index in
    let group = c.group-item.result in
    let at = view_place c.args.amongs.now.items c.loop-group.following in
    ap (past_groups (view_groups (drop (i + 1) groups) bare)) (c.past_rows-following.ensures ∙ ap (past_rows (view_rows (out-Group group).rows.items)) c.end_waiting.ensures)
    ∙ ap (λ (gs : trees.Groups). past_groups gs at) (sym (groups_at groups _ i group bare c.deref-group-items.ensures.value c.loop-group-test.true c.group-item.is))
    ∙ c.loop-group.invariant bare
