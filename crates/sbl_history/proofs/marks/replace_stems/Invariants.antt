use Rattle.std.proofs.Common.{◌≡◌, ◌++◌, drop, map}
use Rattle.sbl_rows.specs.Rows.{view_rows}
use Rattle.sbl_rows.specs.StemRows.{rows_with}
use Rattle.sbl_history.specs.Desks.{view_marked}
use Rattle.sbl_history.proofs.marks.replace_stems.Given as goal

-- the rows so far, and those of the words and stems still to come
abbrev pub invariant-loop-i : goal.invariant-loop-i
invariant-loop-i l =
    map view_marked l.marked.items ++ rows_with (map (λ r. r.word) (view_rows (drop l.i l.rows))) (map (λ s. s.items) (drop l.i l.stems))
    ≡ rows_with (map (λ r. r.word) (view_rows l.rows)) (map (λ s. s.items) l.stems)
