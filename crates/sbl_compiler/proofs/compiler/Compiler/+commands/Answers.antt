use Rattle.std.proofs.Common.{◌∙◌, ◌+◌, ◌++◌, ◌∷◌, List, ap, drop, map, sym}
use Rattle.sbl_ast.specs.Tree as trees
use Rattle.sbl_ast.specs.View.{view_command, view_row}
use Rattle.sbl_ast.specs.inside.ViewParts.{view_groups, view_others, view_rows}
use Rattle.sbl_ast.specs.declared.tree.Group.{out-Group}
use Rattle.sbl_program.specs.Program as programs
use Rattle.sbl_program.specs.ProgramOf.{commands_of}
use Rattle.sbl_program.specs.declared.node.Node.TheVariants.{Sequence}
use Rattle.sbl_program.specs.Chains.{JoinedView, join_all}
use Rattle.sbl_program.specs.FoundView.{strings_at}
use Rattle.sbl_compiler.specs.NumberedItems.{Position, joins_in, numbered_command, numbered_groups, numbered_rows, past, past_groups, past_others, past_rows, region}
use Rattle.sbl_compiler.specs.NumberedView.{joined_in, names_in, node_in, place_in}
use Rattle.sbl_compiler.proofs.Loops.{groups_at, one_more, others_at, rows_at}
use Rattle.sbl_compiler.proofs.NumberingPlaces.{sequence_view}
use Rattle.sbl_compiler.proofs.compiler.Compiler.+commands.Goals as goal

pub rows_of-loop-row-preserved : goal.rows_of-loop-row-preserved
rows_of-loop-row-preserved t c =
    let self = c.args.self.now in
    let ns = names_in self in
    let rows = c.args.rows.now.items in
    let rest = view_rows (drop (c.loop-row.row-index + 1) rows) in
    let at = place_in self c.loop-row.place in
    let sofar = map (node_in self) c.loop-row.nodes.items in
    let parts = view_row c.row-item.result in
    let made = join_all (joins_in ns parts.1 (past parts.0 at)) (numbered_command ns parts.0 at) in
    let seen = rows_at rows _ c.loop-row.row-index c.row-item.result c.deref-row-items.ensures.value c.loop-row-test.true c.row-item.is in (
      one_more (node_in self) c.loop-row.nodes.items c.push.new.self.items c.in-Ok.node made (numbered_rows ns rest (place_in self c.row_of.new.place)) c.in-Ok-push.ensures.items c.in-Ok.ensures.made
          ∙ ap (λ (p : Position). sofar ++ made ∷ numbered_rows ns rest p) c.in-Ok.ensures.following
          ∙ ap (λ (rs : trees.Rows). sofar ++ numbered_rows ns rs at) (sym seen)
          ∙ c.loop-row.invariant.0,
      ap (past_rows rest) c.in-Ok.ensures.following ∙ ap (λ (rs : trees.Rows). past_rows rs at) (sym seen) ∙ c.loop-row.invariant.1,
    )

pub others_of-loop-other-preserved : goal.others_of-loop-other-preserved
others_of-loop-other-preserved t c =
    let self = c.args.self.now in
    let ns = names_in self in
    let others = c.args.others.now.items in
    let other = c.other-item.result in
    let rest = view_others (drop (c.loop-other.other-index + 1) others) in
    let at = place_in self c.loop-other.place in
    let sofar = map (joined_in self) c.loop-other.joins.items in
    let made : JoinedView = (other.joiner, numbered_command ns (view_command other.command) at) in
    let is_made = c.joined_command.ensures ∙ ap (λ (n : programs.Node). let v : JoinedView = (other.joiner, n) in v) c.in-Ok.ensures.made in
    let seen = others_at others _ c.loop-other.other-index other c.deref-other-items.ensures.value c.loop-other-test.true c.other-item.is in (
      one_more (joined_in self) c.loop-other.joins.items c.push.new.self.items c.joined_command.result made (joins_in ns rest (place_in self c.node_of.new.place)) c.in-Ok-push.ensures.items is_made
          ∙ ap (λ (p : Position). sofar ++ made ∷ joins_in ns rest p) c.in-Ok.ensures.following
          ∙ ap (λ (os : trees.Others). sofar ++ joins_in ns os at) (sym seen)
          ∙ c.loop-other.invariant.0,
      ap (past_others rest) c.in-Ok.ensures.following ∙ ap (λ (os : trees.Others). past_others os at) (sym seen) ∙ c.loop-other.invariant.1,
    )

pub bodies_of-loop-group-preserved : goal.bodies_of-loop-group-preserved
bodies_of-loop-group-preserved t c = λ bare.
    let self = c.args.self.now in
    let ns = names_in self in
    let groups = c.args.groups.now.items in
    let group = c.group-item.result in
    let rest = view_groups (drop (c.loop-group.group-index + 1) groups) bare in
    let at = place_in self c.loop-group.place in
    let sofar = map (node_in self) c.loop-group.bodies.items in
    let rows = view_rows (out-Group group).rows.items in
    let made = programs.sequence (commands_of (numbered_rows ns rows (region rows at))) in
    let is_made = sequence_view (strings_at self.amongs.now.items) c.in-Ok.nodes ∙ ap (λ (ls : List programs.Node). programs.sequence (commands_of ls)) c.in-Ok.ensures.made in
    let seen = groups_at groups _ c.loop-group.group-index group bare c.deref-group-items.ensures.value c.loop-group-test.true c.group-item.is in (
      one_more (node_in self) c.loop-group.bodies.items c.push.new.self.items (Sequence c.in-Ok.nodes) made (numbered_groups ns rest (place_in self c.region.new.place)) c.in-Ok-push.ensures.items is_made
          ∙ ap (λ (p : Position). sofar ++ made ∷ numbered_groups ns rest p) c.in-Ok.ensures.following
          ∙ ap (λ (gs : trees.Groups). sofar ++ numbered_groups ns gs at) (sym seen)
          ∙ (c.loop-group.invariant bare).0,
      ap (past_groups rest) c.in-Ok.ensures.following ∙ ap (λ (gs : trees.Groups). past_groups gs at) (sym seen) ∙ (c.loop-group.invariant bare).1,
    )
