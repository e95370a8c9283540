use Rattle.std.proofs.Common.{◌≡◌, ℕ, List, take, true}
use Rattle.std.specs.List.{AllByRecursion}
use Rattle.sbl_rows.specs.Rows.{view_rows}
use Rattle.sbl_history.specs.inside.TextSets.{has}
use Rattle.sbl_history.proofs.unlike.note_all.Given as goal

abbrev pub invariant-loop-row : goal.invariant-loop-row
invariant-loop-row l =
    ((t : List ℕ) → has l.initial.words t ≡ true → has l.words t ≡ true)
    × AllByRecursion (λ r. has l.words r.word ≡ true) (view_rows (take l.row-index l.rows))
