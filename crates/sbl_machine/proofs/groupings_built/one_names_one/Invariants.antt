use Rattle.std.proofs.Common.{◌≡◌, drop, map}
use Rattle.sbl_semantics.specs.Items.{is_member}
use Rattle.sbl_ast.specs.View.{view_term}
use Rattle.sbl_machine.specs.BuiltFrom.{any_names}
use Rattle.sbl_machine.proofs.groupings_built.one_names_one.Given as goal

-- none so far
abbrev pub invariant-loop-term : goal.invariant-loop-term
invariant-loop-term l = any_names (is_member l.names) (map view_term (drop l.term-index l.terms)) ≡ any_names (is_member l.names) (map view_term l.terms)
