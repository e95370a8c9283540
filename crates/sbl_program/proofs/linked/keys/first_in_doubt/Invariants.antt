use Rattle.std.proofs.Common.{ℕ, ◌<◌, ◌≤◌, ◌-◌, length, get_or}
use Rattle.sbl_program.proofs.linked.keys.first_in_doubt.Given as goal

abbrev pub invariant-loop-high : goal.invariant-loop-high
invariant-loop-high l =
    (l.low ≤ l.high) × (l.high ≤ length l.keys) ×
    ((j : ℕ) → j < l.low → get_or l.keys j 0 ≤ l.key) ×
    ((j : ℕ) → l.high ≤ j → j < length l.keys → l.key < get_or l.keys j 0)

abbrev pub decreases-loop-high : goal.decreases-loop-high
decreases-loop-high l = l.high - l.low
