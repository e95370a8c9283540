use Rattle.std.proofs.Common.{◌≡◌, ◌∷◌, length, map, string_bytes}
use Rattle.sbl_ast.specs.Spelled as written
use Rattle.sbl_parser.specs.Gives.{ahead}
use Rattle.sbl_parser.specs.Steps as wanted
use Rattle.sbl_parser.proofs.items.names.Given as goal

abbrev pub invariant-loop-names : goal.invariant-loop-names
invariant-loop-names l = record {
  spelled : ahead l.initial.cursor ≡ written.spelled_names (map string_bytes l.names.items) (ahead l.cursor);
  faults : (k : wanted.Stack) → wanted.fault (ahead l.initial.cursor) (wanted.names ∷ k) ≡ wanted.fault (ahead l.cursor) (wanted.names ∷ k);
}

abbrev pub decreases-loop-names : goal.decreases-loop-names
decreases-loop-names l = length (ahead l.cursor)
