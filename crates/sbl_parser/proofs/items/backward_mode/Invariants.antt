use Rattle.std.proofs.Common.{◌≡◌, ◌∷◌, length, map}
use Rattle.sbl_ast.specs.Terminal as t
use Rattle.sbl_ast.specs.Spelled as written
use Rattle.sbl_ast.specs.View as view
use Rattle.sbl_parser.specs.Gives.{ahead}
use Rattle.sbl_parser.specs.Steps as wanted
use Rattle.sbl_parser.proofs.items.backward_mode.Given as goal

abbrev pub invariant-loop-cursor : goal.invariant-loop-cursor
invariant-loop-cursor l = record {
  spelled : ahead l.fn.cursor ≡ t.backward_mode ∷ t.open_ ∷ written.spelled_plains (map view.view_plain l.plains.items) (ahead l.cursor);
  faults : (k : wanted.Stack) → wanted.fault (ahead l.fn.cursor) (wanted.item ∷ k) ≡ wanted.fault (ahead l.cursor) (wanted.plains ∷ wanted.closing 0 ∷ k);
}

abbrev pub decreases-loop-cursor : goal.decreases-loop-cursor
decreases-loop-cursor l = length (ahead l.cursor)
