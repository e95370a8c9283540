use Rattle.std.proofs.Common.{◌+◌, ◌∷◌, drop, map, sym, ap, ◌∙◌}
use Rattle.std.proofs.lemmas.Bool.{ne_eqb}
use Rattle.sbl_ast.specs.Tree as trees
use Rattle.sbl_ast.specs.View as view
use Rattle.sbl_ast.specs.inside.ViewParts as view_parts
use Rattle.sbl_ast.specs.declared.tree.Command.{Command}
use Rattle.sbl_ast.specs.declared.tree.Command.TheViews.{out-Group, out-Among, out-RowOfCommands}
use Rattle.sbl_ast.proofs.Views as views
use Rattle.sbl_tree_amongs.proofs.Putting as p
use Rattle.sbl_tree_amongs.proofs.Walking as f
use Rattle.sbl_tree_amongs.proofs.finding.+find.Goals as goal

pub in_among-returns-in-After : goal.in_among-returns-in-After
in_among-returns-in-After t c =
    f.found_in_groups c.in_groups.result c.args.number c.saturating_sub-inside.result c.in-After.number c.args.depth (view.view_among c.args.among.now).0 (view.view_among c.args.among.now).1 (map view_parts.view_group (out-Among c.args.among.now).groups.items) (map view.view_entry (out-Among c.args.among.now).bare.items)
    (ne_eqb c.args.number 1 c.if-number-eq1.false) c.saturating_sub-inside.ensures (f.seen_groups c.args.among.now) c.in-After.ensures c.in_groups.ensures

pub in_among-returns-in-There : goal.in_among-returns-in-There
in_among-returns-in-There t c =
    f.found_in_starter c.in-There.depth c.in-There.among c.args.number c.saturating_sub-inside.result c.args.depth (view.view_among c.args.among.now).0 (view.view_among c.args.among.now).1 (ne_eqb c.args.number 1 c.if-number-eq1.false) c.saturating_sub-inside.ensures c.in-There.ensures

pub in_command-returns-in-Bracket : goal.in_command-returns-in-Bracket
in_command-returns-in-Bracket t c =
    f.bracket_finds c.in_rows.result c.args.number c.args.depth c.saturating_add-inside.result (view.view_command c.args.command.now) (view_parts.view_rows c.in-Bracket.rows.items) (ap view.view_command c.in-Bracket.is ∙ views.command_Bracket c.in-Bracket.rows) c.saturating_add-inside.ensures c.in_rows.ensures

pub in_command-returns-in-Counted : goal.in_command-returns-in-Counted
in_command-returns-in-Counted t c =
    let is = ap view.view_command c.in-Counted.is ∙ views.command_Counted c.in-Counted.field-0 c.in-Counted.field-1 c.in-Counted.inner ∙ ap (λ (x : Command). trees.counted c.in-Counted.field-0 (view.view_expression c.in-Counted.field-1) (view.view_command x)) (sym c.deref-in-Counted.ensures) in
    f.counted_finds c.in_command-in-Counted.result c.args.number c.args.depth c.saturating_add-inside.result (view.view_command c.args.command.now) (view.view_command c.deref-in-Counted.result.now) c.in-Counted.field-0 (view.view_expression c.in-Counted.field-1) is c.saturating_add-inside.ensures c.in_command-in-Counted.ensures

pub in_command-returns-in-After : goal.in_command-returns-in-After
in_command-returns-in-After t c =
    let a = view.view_command c.deref-in-SetLimit.result.now in
    let is = ap view.view_command c.in-SetLimit.is ∙ views.command_SetLimit c.in-SetLimit.limit c.in-SetLimit.inner ∙ ap (λ (x : Command). trees.setlimit_ (view.view_command x) (view.view_command c.in-SetLimit.inner.value)) (sym c.deref-in-SetLimit.ensures) ∙ ap (λ (x : Command). trees.setlimit_ a (view.view_command x)) (sym c.deref-in-After.ensures) in
    f.limited_finds c.in_command-in-After.result c.args.number c.in-After.number c.args.depth c.saturating_add-inside.result (view.view_command c.args.command.now) a (view.view_command c.deref-in-After.result.now) is c.saturating_add-inside.ensures c.in-After.ensures c.in_command-in-After.ensures

pub in_command-returns-in-There : goal.in_command-returns-in-There
in_command-returns-in-There t c =
    let is = ap view.view_command c.in-SetLimit.is ∙ views.command_SetLimit c.in-SetLimit.limit c.in-SetLimit.inner ∙ ap (λ (x : Command). trees.setlimit_ (view.view_command x) (view.view_command c.in-SetLimit.inner.value)) (sym c.deref-in-SetLimit.ensures) in
    f.limit_finds c.in-There.depth c.in-There.among c.args.number c.args.depth c.saturating_add-inside.result (view.view_command c.args.command.now) (view.view_command c.deref-in-SetLimit.result.now) (view.view_command c.in-SetLimit.inner.value) is c.saturating_add-inside.ensures c.in-There.ensures

pub in_groups-returns-in-There : goal.in_groups-returns-in-There
in_groups-returns-in-There t c =
    let prefix = p.at_prefix view_parts.view_group c.args.groups.now.items c.deref-group-items.result.now c.loop-group.group-index c.group-item.result c.deref-group-items.ensures.value c.loop-group-test.true c.group-item.is in
    let one : view.GroupView = record { first = view.view_entry (out-Group c.group-item.result).first; others = map view.view_entry (out-Group c.group-item.result).others.items; rows = view_parts.view_rows (out-Group c.group-item.result).rows.items } in
    let whole = prefix ∙ ap (λ (y : view.GroupView). y ∷ map view_parts.view_group (drop (c.loop-group.group-index + 1) c.args.groups.now.items)) (views.seen_group c.group-item.result) in
    f.groups_there c.in-There.depth c.in-There.among c.loop-group.following c.args.number c.args.depth c.saturating_add.result one _ _ (map view_parts.view_group c.args.groups.now.items) whole c.saturating_add.ensures c.loop-group.invariant c.in-There.ensures

pub in_groups-loop-group-preserved : goal.in_groups-loop-group-preserved
in_groups-loop-group-preserved t c =
    let prefix = p.at_prefix view_parts.view_group c.args.groups.now.items c.deref-group-items.result.now c.loop-group.group-index c.group-item.result c.deref-group-items.ensures.value c.loop-group-test.true c.group-item.is in
    let one : view.GroupView = record { first = view.view_entry (out-Group c.group-item.result).first; others = map view.view_entry (out-Group c.group-item.result).others.items; rows = view_parts.view_rows (out-Group c.group-item.result).rows.items } in
    let whole = prefix ∙ ap (λ (y : view.GroupView). y ∷ map view_parts.view_group (drop (c.loop-group.group-index + 1) c.args.groups.now.items)) (views.seen_group c.group-item.result) in
    f.groups_next c.loop-group.following c.args.number c.in-After.next c.args.depth c.saturating_add.result one _ _ (map view_parts.view_group c.args.groups.now.items) whole c.saturating_add.ensures c.loop-group.invariant c.in-After.ensures

pub in_others-returns-in-There : goal.in_others-returns-in-There
in_others-returns-in-There t c =
    let prefix = p.at_prefix view_parts.view_next_command c.args.others.now.items c.deref-joined-items.result.now c.loop-joined.joined-index c.joined-item.result c.deref-joined-items.ensures.value c.loop-joined-test.true c.joined-item.is in
    let whole = prefix ∙ ap (λ (y : view_parts.NextCommandView). y ∷ map view_parts.view_next_command (drop (c.loop-joined.joined-index + 1) c.args.others.now.items)) (views.seen_next_command c.joined-item.result) in
    f.others_there c.in-There.depth c.in-There.among c.loop-joined.following c.args.number c.args.depth (c.joined-item.result.joiner, view.view_command c.joined-item.result.command) _ _ (map view_parts.view_next_command c.args.others.now.items) whole c.loop-joined.invariant c.in-There.ensures

pub in_others-loop-joined-preserved : goal.in_others-loop-joined-preserved
in_others-loop-joined-preserved t c =
    let prefix = p.at_prefix view_parts.view_next_command c.args.others.now.items c.deref-joined-items.result.now c.loop-joined.joined-index c.joined-item.result c.deref-joined-items.ensures.value c.loop-joined-test.true c.joined-item.is in
    let whole = prefix ∙ ap (λ (y : view_parts.NextCommandView). y ∷ map view_parts.view_next_command (drop (c.loop-joined.joined-index + 1) c.args.others.now.items)) (views.seen_next_command c.joined-item.result) in
    f.others_next c.loop-joined.following c.args.number c.in-After.next c.args.depth (c.joined-item.result.joiner, view.view_command c.joined-item.result.command) _ _ (map view_parts.view_next_command c.args.others.now.items) whole c.loop-joined.invariant c.in-After.ensures

pub in_row-returns-in-After : goal.in_row-returns-in-After
in_row-returns-in-After t c =
    f.row_finds c.in_others.result c.args.number c.in-After.number c.args.depth (view.view_row c.args.row.now) (view.view_command (out-RowOfCommands c.args.row.now).first) (view_parts.view_others (out-RowOfCommands c.args.row.now).others.items) (f.seen_row c.args.row.now) c.in-After.ensures c.in_others.ensures

pub in_row-returns-in-There : goal.in_row-returns-in-There
in_row-returns-in-There t c =
    f.row_there c.in-There.depth c.in-There.among c.args.number c.args.depth (view.view_row c.args.row.now) (view.view_command (out-RowOfCommands c.args.row.now).first) (view_parts.view_others (out-RowOfCommands c.args.row.now).others.items) (f.seen_row c.args.row.now) c.in-There.ensures

pub in_rows-returns-in-There : goal.in_rows-returns-in-There
in_rows-returns-in-There t c =
    let prefix = p.at_prefix view.view_row c.args.rows.now.items c.deref-row-items.result.now c.loop-row.row-index c.row-item.result c.deref-row-items.ensures.value c.loop-row-test.true c.row-item.is in
    f.rows_there c.in-There.depth c.in-There.among c.loop-row.following c.args.number c.args.depth (view.view_row c.row-item.result) _ _ (map view.view_row c.args.rows.now.items) prefix c.loop-row.invariant c.in-There.ensures

pub in_rows-loop-row-preserved : goal.in_rows-loop-row-preserved
in_rows-loop-row-preserved t c =
    let prefix = p.at_prefix view.view_row c.args.rows.now.items c.deref-row-items.result.now c.loop-row.row-index c.row-item.result c.deref-row-items.ensures.value c.loop-row-test.true c.row-item.is in
    f.rows_next c.loop-row.following c.args.number c.in-After.next c.args.depth (view.view_row c.row-item.result) _ _ (map view.view_row c.args.rows.now.items) prefix c.loop-row.invariant c.in-After.ensures

pub in_starter-returns-in-Some : goal.in_starter-returns-in-Some
in_starter-returns-in-Some t c =
    let is = ap (λ (x : view.AmongView). x.0) (views.seen_started c.args.among.now c.in-Some.rows c.in-Some.is) in
    f.starter_finds c.in_rows.result c.args.number c.args.depth c.saturating_add.result (view.view_among c.args.among.now).0 (view_parts.view_rows c.in-Some.rows.items) is c.saturating_add.ensures c.in_rows.ensures
