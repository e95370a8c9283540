use Rattle.std.proofs.Common.{ℕ, ◌<◌, ◌≤◌, get_or}
use Rattle.sbl_program.proofs.linked.keys.keys_upto.Given as goal

abbrev pub invariant-loop-i : goal.invariant-loop-i
invariant-loop-i l =
    (l.count ≤ l.i) ×
    ((j : ℕ) → j < l.count → get_or l.keys j 0 ≤ l.key) ×
    ((j : ℕ) → l.count ≤ j → j < l.i → l.key < get_or l.keys j 0)
