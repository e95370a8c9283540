use Rattle.std.proofs.Common.{◌≡◌, ◌∙◌, ◌+◌, ◌<◌, List, None, Some, ap, arith, length, map, slice_get, subst, sym, take}
use Rattle.std.proofs.lemmas.List.{length-map, take_all}
use Rattle.std.specs.Option.{option_map}
use Rattle.sbl_bench.specs.Contents.{rows_now}
use Rattle.sbl_bench.specs.KeptRuns.{contents_of, setting_of}
use Rattle.sbl_rows.specs.Rows.{Row, row_of, view_row}
use Rattle.sbl_records.specs.RowRecords.{row_fields}
use Rattle.sbl_reports.specs.Listings.{stems_text}
use Rattle.sbl_io.specs.RecordsWritten.{HasWritten}
use Rattle.sbl_records.specs.declared.record_writer.RecordWriter.{RecordWriter}
use Rattle.sbl_io.specs.Records.{records_text}
use Rattle.sbl_reports.proofs.RowFacts.{no_row, row_more}
use Rattle.sbl_reports.proofs.listings.rows_text.Goals as goal
use Rattle.sbl_reports.proofs.listings.rows_text.Goals.{in-Some+in_ok-push, in_default}

pub loop-i-preserved : goal.loop-i-preserved
loop-i-preserved c =
    let rows = rows_now (contents_of c.args.bench.now) in
    let i = c.loop-i.i in
    elim c.match-row.branch [
      | in-Some+in_ok-push w ↦
          let at : slice_get rows i ≡ Some (view_row w.in-Some.row) = sym c.row.ensures ∙ ap (option_map view_row) w.in-Some.is in
          let written = subst (HasWritten w.push.new.self.writer) (row_more rows i (view_row w.in-Some.row) at) (w.in_ok-push.ensures _ c.loop-i.invariant) in
          subst (λ (writer : RecordWriter). HasWritten writer.writer (records_text (map row_fields (take (i + 1) rows)))) (sym w.writer-is) written
      | in_default w ↦
          let none : slice_get rows i ≡ None = sym c.row.ensures ∙ ap (option_map view_row) w.in_default.is in
          let size = length-map c.args.bench.now.words (row_of (setting_of c.args.bench.now)) in
          let inside : i < length rows = omega (arith, size, c.len-i-end.ensures, c.loop-i-test.true) in
          absurd (no_row rows i inside none)
    ]

pub returns : goal.returns
unfolding stems_text
returns c =
    let rows = rows_now (contents_of c.args.bench.now) in
    let size = length-map c.args.bench.now.words (row_of (setting_of c.args.bench.now)) in
    let all : take c.loop-i.i rows ≡ rows = take_all c.loop-i.i rows (omega (arith, size, c.len-i-end.ensures, c.loop-i-test.false)) in
    c.into_text.ensures _ (subst (λ (taken : List Row). HasWritten c.loop-i.writer.writer (records_text (map row_fields taken))) all c.loop-i.invariant)
