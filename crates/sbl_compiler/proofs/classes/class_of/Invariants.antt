use Rattle.std.proofs.Common.{◌≡◌, drop, map}
use Rattle.sbl_ast.specs.View.{view_term}
use Rattle.sbl_program.specs.CharacterClasses.{members}
use Rattle.sbl_compiler.specs.NumberedClasses.{with_terms}
use Rattle.sbl_compiler.specs.NumberedView.{view_names}
use Rattle.sbl_compiler.proofs.classes.class_of.Given as goal

abbrev pub invariant-loop-place : goal.invariant-loop-place
invariant-loop-place l = with_terms (view_names l.names) (map members l.classes) (map view_term (drop l.place l.others.items)) (members l.class) ≡ with_terms (view_names l.names) (map members l.classes) (map view_term l.others.items) (members l.initial.class)
