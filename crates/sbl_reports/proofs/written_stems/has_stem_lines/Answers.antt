use Rattle.std.proofs.Common.{rules, ◌≡◌, ◌∙◌, ◌<◌, None, Some, ap, arith, length, slice_get, sym, true, false}
use Rattle.std.proofs.lemmas.List.{length-map}
use Rattle.std.specs.Option.{option_map}
use Rattle.sbl_bench.specs.Contents.{rows_now}
use Rattle.sbl_bench.specs.KeptRuns.{contents_of, setting_of}
use Rattle.sbl_rows.specs.Rows.{Row, row_of, view_row}
use Rattle.sbl_reports.specs.StemLines.{has_line}
use Rattle.sbl_reports.proofs.RowFacts.{no_row}
use Rattle.sbl_reports.proofs.StemFacts.{goes_on, stops}
use Rattle.sbl_reports.proofs.written_stems.has_stem_lines.Goals as goal
use Rattle.sbl_reports.proofs.written_stems.has_stem_lines.Goals.{in-Some+else-not-has_line, in_default}

pub returns-then-not-has_line : goal.returns-then-not-has_line
returns-then-not-has_line c =
    let rows = rows_now (contents_of c.args.bench.now) in
    let i = c.loop-i.i in
    let row : Row = view_row c.in-Some.row in
    let at : slice_get rows i ≡ Some row = sym c.row.ensures ∙ ap (option_map view_row) c.in-Some.is in
    let off : c.has_line.result ≡ false = search rules in
    stops rows i row at (sym c.has_line.ensures ∙ off)

pub loop-i-preserved : goal.loop-i-preserved
loop-i-preserved c =
    let rows = rows_now (contents_of c.args.bench.now) in
    let i = c.loop-i.i in
    elim c.match-row.branch [
      | in-Some+else-not-has_line w ↦
          let row : Row = view_row w.in-Some.row in
          let at : slice_get rows i ≡ Some row = sym c.row.ensures ∙ ap (option_map view_row) w.in-Some.is in
          let on : w.has_line.result ≡ true = search rules in
          goes_on rows i row at (sym w.has_line.ensures ∙ on) c.loop-i.invariant
      | in_default w ↦
          let none : slice_get rows i ≡ None = sym c.row.ensures ∙ ap (option_map view_row) w.in_default.is in
          let size = length-map c.args.bench.now.words (row_of (setting_of c.args.bench.now)) in
          let inside : i < length rows = omega (arith, size, c.len-i-end.ensures, c.loop-i-test.true) in
          absurd (no_row rows i inside none)
    ]
