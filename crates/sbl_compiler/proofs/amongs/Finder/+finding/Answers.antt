use Rattle.std.proofs.Common.{◌∙◌, ◌+◌, ap, drop, map, refl, sym}
use Rattle.sbl_ast.specs.Tree as trees
use Rattle.sbl_ast.specs.inside.ViewParts.{view_groups}
use Rattle.sbl_compiler.specs.NumberedAmongs.{found_groups, found_others, found_rows}
use Rattle.sbl_compiler.specs.NumberedView.{view_found, view_names}
use Rattle.sbl_compiler.proofs.Loops.{groups_at, next_joined, next_row}
use Rattle.sbl_compiler.proofs.amongs.Finder.+finding.Goals as goal

pub find_rows-loop-row-preserved : goal.find_rows-loop-row-preserved
find_rows-loop-row-preserved t c =
    next_row (found_rows (view_names c.args.self.now.names.now) c.args.self.now.first c.args.self.now.mode) c.args.rows.now.items _ c.loop-row.row-index c.row-item.result _ _ (map view_found c.loop-row.all.items) _
    c.deref-row-items.ensures.value c.loop-row-test.true c.row-item.is c.in_ok-find_row.ensures refl c.loop-row.invariant

pub find_others-loop-joined-preserved : goal.find_others-loop-joined-preserved
find_others-loop-joined-preserved t c =
    next_joined (found_others (view_names c.args.self.now.names.now) c.args.self.now.first c.args.self.now.mode) c.args.others.now.items _ c.loop-joined.joined-index c.joined-item.result _ _ (map view_found c.loop-joined.all.items) _
    c.deref-joined-items.ensures.value c.loop-joined-test.true c.joined-item.is c.in_ok-find.ensures refl c.loop-joined.invariant

pub find_groups-loop-group-preserved : goal.find_groups-loop-group-preserved
find_groups-loop-group-preserved t c = λ bare.
    let ns = view_names c.args.self.now.names.now in
    let first = c.args.self.now.first in
    let mode = c.args.self.now.mode in
    let groups = c.args.groups.now.items in
    let i = c.loop-group.group-index in
    ap (found_groups ns first mode (view_groups (drop (i + 1) groups) bare)) c.in_ok-find_rows.ensures
    ∙ ap (λ (gs : trees.Groups). found_groups ns first mode gs (map view_found c.loop-group.all.items))
    (sym (groups_at groups _ i c.group-item.result bare c.deref-group-items.ensures.value c.loop-group-test.true c.group-item.is))
    ∙ c.loop-group.invariant bare
