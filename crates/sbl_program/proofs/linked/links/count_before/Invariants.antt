use Rattle.std.proofs.Common.{◌≡◌, ℕ, ◌<◌, ◌≤◌, ◌-◌, true, false, List, length, Some}
use Rattle.std.specs.Prelude.{slice_get}
use Rattle.std.specs.Ordering.{is_gt, nat_cmp}
use Rattle.std.specs.Cmp.Lexicographic.{slice_cmp}
use Rattle.sbl_semantics.specs.Fitting.{read_as}
use Rattle.sbl_program.specs.Linked.{texts_of}
use Rattle.sbl_program.proofs.linked.links.count_before.Given as goal

abbrev pub invariant-loop-low : goal.invariant-loop-low
invariant-loop-low l =
    let x = read_as l.direction l.part in
    (l.low ≤ l.high) × (l.high ≤ length l.rows) ×
    ((j : ℕ) (v : List ℕ) → j < l.low → slice_get (texts_of l.rows) j ≡ Some v → is_gt (slice_cmp nat_cmp v x) ≡ false) ×
    ((j : ℕ) (v : List ℕ) → l.high ≤ j → slice_get (texts_of l.rows) j ≡ Some v → is_gt (slice_cmp nat_cmp v x) ≡ true)

abbrev pub decreases-loop-low : goal.decreases-loop-low
decreases-loop-low l = l.high - l.low
