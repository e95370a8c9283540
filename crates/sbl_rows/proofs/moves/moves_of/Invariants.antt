use Rattle.std.proofs.Common.{◌≡◌, ◌++◌, drop}
use Rattle.sbl_rows.specs.Moves as spec
use Rattle.sbl_rows.specs.Grouping.{view_pairs}
use Rattle.sbl_rows.specs.KnownOutcomes.{known_outcome}
use Rattle.sbl_rows.specs.Rows.{view_rows}
use Rattle.sbl_rows.proofs.moves.moves_of.Given as goal

-- the moves so far, and those of the rows still to come
abbrev pub invariant-loop-row : goal.invariant-loop-row
invariant-loop-row l =
    view_pairs l.moves.items ++ spec.moves_of (known_outcome l.before) (view_rows (drop l.row-index l.after))
    ≡ spec.moves_of (known_outcome l.before) (view_rows l.after)
