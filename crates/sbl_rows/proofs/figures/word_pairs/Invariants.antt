use Rattle.std.proofs.Common.{◌≡◌, ◌++◌, drop}
use Rattle.sbl_rows.specs.Grouping.{view_pairs}
use Rattle.sbl_rows.specs.Rows.{view_rows}
use Rattle.sbl_rows.specs.Classes.{stem_pairs}
use Rattle.sbl_rows.proofs.figures.word_pairs.Given as goal

-- the pairs so far, and those of the rows still to come
abbrev pub invariant-loop-row : goal.invariant-loop-row
invariant-loop-row l =
    view_pairs l.pairs.items ++ stem_pairs (view_rows (drop l.row-index l.rows))
    ≡ stem_pairs (view_rows l.rows)
