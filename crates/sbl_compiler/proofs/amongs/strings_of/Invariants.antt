use Rattle.std.proofs.Common.{◌≡◌, drop, List, []}
use Rattle.sbl_ast.specs.Tree as trees
use Rattle.sbl_ast.specs.inside.ViewParts.{view_groups}
use Rattle.sbl_compiler.specs.NumberedAmongs.{strings_after}
use Rattle.sbl_program.specs.FoundView.{texts}
use Rattle.sbl_compiler.proofs.amongs.strings_of.Given as goal

abbrev pub invariant-loop-group : goal.invariant-loop-group
invariant-loop-group l = (bare : List trees.Entry) → strings_after (view_groups (drop l.group-index l.groups.items) bare) (texts l.strings.items) ≡ strings_after (view_groups l.groups.items bare) []
