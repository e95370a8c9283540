use Rattle.std.proofs.Common.{◌≡◌, drop, List}
use Rattle.sbl_ast.specs.Tree as trees
use Rattle.sbl_ast.specs.inside.ViewParts.{view_groups}
use Rattle.sbl_compiler.specs.NumberedAmongs.{entries_after}
use Rattle.sbl_compiler.specs.NumberedView.{view_names}
use Rattle.sbl_compiler.proofs.amongs.add_group_entries.Given as goal

abbrev pub invariant-loop-number : goal.invariant-loop-number
invariant-loop-number l = (bare : List trees.Entry) → entries_after (view_names l.names) l.number (view_groups (drop l.number l.groups.items) bare) l.entries.items ≡ entries_after (view_names l.names) 0 (view_groups l.groups.items bare) l.initial.entries.items
