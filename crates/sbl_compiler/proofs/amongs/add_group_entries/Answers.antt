use Rattle.std.proofs.Common.{◌∙◌, ◌+◌, ap, drop, map, sym}
use Rattle.sbl_ast.specs.Tree as trees
use Rattle.sbl_ast.specs.View.{view_entry}
use Rattle.sbl_ast.specs.inside.ViewParts.{view_groups}
use Rattle.sbl_ast.specs.declared.tree.Group.{out-Group}
use Rattle.sbl_compiler.specs.NumberedAmongs.{entries_after, entries_in}
use Rattle.sbl_compiler.specs.NumberedView.{view_names}
use Rattle.sbl_compiler.proofs.Loops.{groups_at}
use Rattle.sbl_compiler.proofs.amongs.add_group_entries.Goals as goal

pub loop-number-preserved : goal.loop-number-preserved
loop-number-preserved c = λ bare.
    let ns = view_names c.args.names.now in
    let groups = c.args.groups.now.items in
    let i = c.loop-number.number in
    let group = c.group-item.result in
    ap (entries_after ns (i + 1) (view_groups (drop (i + 1) groups) bare))
    (c.in_ok-add_entries.ensures ∙ ap (entries_in ns i (map view_entry (out-Group group).others.items)) c.in_ok-add_entry.ensures)
    ∙ ap (λ (gs : trees.Groups). entries_after ns i gs c.loop-number.entries.items)
    (sym (groups_at groups _ i group bare c.deref-group-items.ensures.value c.loop-number-test.true c.group-item.is))
    ∙ c.loop-number.invariant bare
