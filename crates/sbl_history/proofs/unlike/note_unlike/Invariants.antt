use Rattle.std.proofs.Common.{◌-◌, ◌+◌, ◌≤◌, length, take}
use Rattle.std.specs.List.{AllByRecursion}
use Rattle.sbl_rows.specs.Rows.{view_rows}
use Rattle.sbl_history.specs.inside.Noted.{IsNoted}
use Rattle.sbl_history.specs.inside.TextSets.{has}
use Rattle.sbl_history.proofs.unlike.note_unlike.Given as goal

-- what is so of the rows so far in both lists
abbrev pub invariant-loop-i : goal.invariant-loop-i
invariant-loop-i l =
    (l.i ≤ length l.before) × (l.j ≤ length l.after)
    × AllByRecursion (IsNoted (has l.words) (view_rows l.after)) (view_rows (take l.i l.before))
    × AllByRecursion (IsNoted (has l.words) (view_rows l.before)) (view_rows (take l.j l.after))

abbrev pub decreases-loop-i : goal.decreases-loop-i
decreases-loop-i l = (length l.before - l.i) + (length l.after - l.j)
