use Rattle.std.proofs.Common.{◌≡◌, take}
use Rattle.std.specs.List.{flat_map}
use Rattle.sbl_rows.specs.Rows.{view_rows}
use Rattle.sbl_reports.specs.StemLines.{stem_line}
use Rattle.sbl_reports.proofs.written_stems.lines_of_rows.Given as goal

abbrev pub invariant-loop-row : goal.invariant-loop-row
invariant-loop-row l = l.text.items ≡ flat_map (λ r. stem_line r.outcome) (view_rows (take l.row-index l.rows))
