use Rattle.std.proofs.Common.{◌≡◌, ◌++◌, drop}
use Rattle.std.specs.List.{filter_map}
use Rattle.sbl_rows.specs.Changes.{view_changes}
use Rattle.sbl_rows.specs.KnownOutcomes.{known_outcome}
use Rattle.sbl_rows.specs.Rows.{view_rows}
use Rattle.sbl_rows.specs.Sides.{lone}
use Rattle.sbl_rows.proofs.words.push_lone.Given as goal

-- the changes so far, and those of the rows still to come
abbrev pub invariant-loop-row : goal.invariant-loop-row
invariant-loop-row l =
    view_changes l.changes.items ++ filter_map (λ r. lone l.side (known_outcome l.other r.word) r) (view_rows (drop l.row-index l.rows))
    ≡ view_changes l.initial.changes.items ++ filter_map (λ r. lone l.side (known_outcome l.other r.word) r) (view_rows l.rows)
