use Rattle.std.proofs.Common.{◌≡◌, ◌++◌, drop, List}
use Rattle.sbl_ast.specs.Tree as trees
use Rattle.sbl_ast.specs.inside.ViewParts.{view_groups}
use Rattle.sbl_uses.specs.Parts.{strings_of}
use Rattle.sbl_uses.specs.UnusedViews.{texts_of}
use Rattle.sbl_uses.proofs.amongs.add_group_strings.Given as goal

abbrev pub invariant-loop-group : goal.invariant-loop-group
invariant-loop-group l = (bare : List trees.Entry) → texts_of l.strings.items ++ strings_of (view_groups (drop l.group-index l.groups.items) bare) ≡ texts_of l.initial.strings.items ++ strings_of (view_groups l.groups.items bare)
