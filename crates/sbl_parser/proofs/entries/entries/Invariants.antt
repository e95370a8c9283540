use Rattle.std.proofs.Common.{◌≡◌, ◌∷◌, length, map}
use Rattle.sbl_ast.specs.Spelled as written
use Rattle.sbl_ast.specs.View as view
use Rattle.sbl_parser.specs.Gives.{ahead}
use Rattle.sbl_parser.specs.Steps as wanted
use Rattle.sbl_parser.proofs.entries.entries.Given as goal

abbrev pub invariant-loop-entries : goal.invariant-loop-entries
invariant-loop-entries l = record {
  spelled : ahead l.fn.cursor ≡ written.spelled_entries (map view.view_entry l.entries.items) (ahead l.cursor);
  faults : (k : wanted.Stack) → wanted.fault (ahead l.fn.cursor) (wanted.entries l.depth ∷ k) ≡ wanted.fault (ahead l.cursor) (wanted.entries l.depth ∷ k);
}

abbrev pub decreases-loop-entries : goal.decreases-loop-entries
decreases-loop-entries l = length (ahead l.cursor)
