use Rattle.std.proofs.Common.{◌≡◌, ◌++◌, drop}
use Rattle.std.specs.List.{filter}
use Rattle.sbl_rows.specs.Rows.{view_rows}
use Rattle.sbl_history.specs.inside.TextSets.{has}
use Rattle.sbl_history.proofs.noted.rows_noted.Given as goal

-- the rows so far, and those still to come
abbrev pub invariant-loop-row : goal.invariant-loop-row
invariant-loop-row l = view_rows l.found.items ++ filter (λ r. has l.words r.word) (view_rows (drop l.row-index l.rows)) ≡ filter (λ r. has l.words r.word) (view_rows l.rows)
