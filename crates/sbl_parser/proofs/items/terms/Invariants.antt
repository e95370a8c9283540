use Rattle.std.proofs.Common.{◌≡◌, ◌∷◌, length, map}
use Rattle.sbl_ast.specs.Spelled as written
use Rattle.sbl_ast.specs.View as view
use Rattle.sbl_parser.specs.Gives.{ahead}
use Rattle.sbl_parser.specs.Steps as wanted
use Rattle.sbl_parser.proofs.items.terms.Given as goal

abbrev pub invariant-loop-operator : goal.invariant-loop-operator
invariant-loop-operator l = record {
  spelled : ahead l.fn.cursor ≡ written.argument_terminal (view.view_argument l.first) ∷ written.spelled_terms (map view.view_term l.others.items) (ahead l.cursor);
  faults : (k : wanted.Stack) → wanted.fault (ahead l.fn.cursor) (wanted.argument 0 ∷ wanted.terms ∷ k) ≡ wanted.fault (ahead l.cursor) (wanted.terms ∷ k);
}

abbrev pub decreases-loop-operator : goal.decreases-loop-operator
decreases-loop-operator l = length (ahead l.cursor)
