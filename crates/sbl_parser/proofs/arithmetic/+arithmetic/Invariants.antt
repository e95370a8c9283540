use Rattle.std.proofs.Common.{◌≡◌, ◌∷◌, ◌*◌, ◌-◌, ◌+◌, length}
use Rattle.sbl_ast.specs.Spelled as written
use Rattle.sbl_ast.specs.inside.ViewParts as view_parts
use Rattle.sbl_parser.specs.Gives.{ahead}
use Rattle.sbl_parser.specs.Steps as wanted
use Rattle.sbl_parser.proofs.arithmetic.+arithmetic.Given as goal

abbrev pub decreases-bracket_factor : goal.decreases-bracket_factor
decreases-bracket_factor l = 4 * (70 - l.depth) + 0

abbrev pub decreases-expression : goal.decreases-expression
decreases-expression l = 4 * (70 - l.depth) + 3

abbrev pub decreases-factor : goal.decreases-factor
decreases-factor l = 4 * (70 - l.depth) + 1

abbrev pub decreases-negation : goal.decreases-negation
decreases-negation l = 4 * (70 - l.depth) + 0

abbrev pub decreases-product : goal.decreases-product
decreases-product l = 4 * (70 - l.depth) + 2

abbrev pub invariant-expression-loop-operator : goal.invariant-expression-loop-operator
invariant-expression-loop-operator l = record {
  spelled : ahead l.fn.cursor ≡ written.spelled_product (view_parts.view_product l.first) (written.spelled_sums (view_parts.view_sums l.others.items) (ahead l.cursor));
  faults : (k : wanted.Stack) → wanted.fault (ahead l.fn.cursor) (wanted.expression l.depth k) ≡ wanted.fault (ahead l.cursor) (wanted.sums l.depth ∷ k);
}

abbrev pub decreases-expression-loop-operator : goal.decreases-expression-loop-operator
decreases-expression-loop-operator l = length (ahead l.cursor)

abbrev pub invariant-product-loop-operator : goal.invariant-product-loop-operator
invariant-product-loop-operator l = record {
  spelled : ahead l.fn.cursor ≡ written.spelled_factor (view_parts.view_factor l.first) (written.spelled_scales (view_parts.view_scales l.others.items) (ahead l.cursor));
  faults : (k : wanted.Stack) → wanted.fault (ahead l.fn.cursor) (wanted.factor l.depth ∷ wanted.scales l.depth ∷ k) ≡ wanted.fault (ahead l.cursor) (wanted.scales l.depth ∷ k);
}

abbrev pub decreases-product-loop-operator : goal.decreases-product-loop-operator
decreases-product-loop-operator l = length (ahead l.cursor)
