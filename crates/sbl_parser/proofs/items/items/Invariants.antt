use Rattle.std.proofs.Common.{◌≡◌, ◌∷◌, length}
use Rattle.sbl_ast.specs.Spelled as written
use Rattle.sbl_ast.specs.View as view
use Rattle.sbl_parser.specs.Gives.{ahead}
use Rattle.sbl_parser.specs.Steps as wanted
use Rattle.sbl_parser.proofs.items.items.Given as goal

abbrev pub invariant-loop-cursor : goal.invariant-loop-cursor
invariant-loop-cursor l = record {
  spelled : ahead l.fn.cursor ≡ written.spelled_items (view.view_items l.items.items) (ahead l.cursor);
  faults : (k : wanted.Stack) → wanted.fault (ahead l.fn.cursor) (wanted.items ∷ k) ≡ wanted.fault (ahead l.cursor) (wanted.items ∷ k);
}

abbrev pub decreases-loop-cursor : goal.decreases-loop-cursor
decreases-loop-cursor l = length (ahead l.cursor)
