use Rattle.std.proofs.Common.{◌∙◌, ◌+◌, ap, drop, map, sym}
use Rattle.sbl_ast.specs.Tree as trees
use Rattle.sbl_ast.specs.View.{view_entry}
use Rattle.sbl_ast.specs.inside.ViewParts.{view_groups}
use Rattle.sbl_ast.specs.declared.tree.Group.{out-Group}
use Rattle.sbl_compiler.specs.NumberedAmongs.{strings_after, strings_in}
use Rattle.sbl_program.specs.FoundView.{texts}
use Rattle.sbl_compiler.proofs.Loops.{groups_at}
use Rattle.sbl_compiler.proofs.amongs.strings_of.Goals as goal

pub loop-group-preserved : goal.loop-group-preserved
loop-group-preserved c = λ bare.
    let groups = c.args.groups.now.items in
    let i = c.loop-group.group-index in
    let group = c.group-item.result in
    ap (strings_after (view_groups (drop (i + 1) groups) bare))
    (c.in_ok-add_strings.ensures ∙ ap (strings_in (map view_entry (out-Group group).others.items)) c.in_ok-add_string.ensures)
    ∙ ap (λ (gs : trees.Groups). strings_after gs (texts c.loop-group.strings.items))
    (sym (groups_at groups _ i group bare c.deref-group-items.ensures.value c.loop-group-test.true c.group-item.is))
    ∙ c.loop-group.invariant bare
