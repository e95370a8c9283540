use Rattle.std.proofs.Common.{map, take}
use Rattle.sbl_bench.specs.Contents.{rows_now}
use Rattle.sbl_bench.specs.KeptRuns.{contents_of}
use Rattle.sbl_records.specs.RowRecords.{row_fields}
use Rattle.sbl_io.specs.RecordsWritten.{HasWritten}
use Rattle.sbl_io.specs.Records.{records_text}
use Rattle.sbl_reports.proofs.listings.rows_text.Given as goal

-- the rows before the index are written
abbrev pub invariant-loop-i : goal.invariant-loop-i
invariant-loop-i l = HasWritten l.writer.writer (records_text (map row_fields (take l.i (rows_now (contents_of l.bench)))))
