use Rattle.std.proofs.Common.{◌≡◌, min, take}
use Rattle.csv.specs.Records.{fields_of}
use Rattle.sbl_io.specs.Reports.{max_count}
use Rattle.sbl_io.proofs.ReportFacts.{total}
use Rattle.sbl_io.proofs.report.line_length.Given as goal

abbrev pub invariant-loop-i : goal.invariant-loop-i
invariant-loop-i l = l.length ≡ min (total (take l.i (fields_of l.csv_record))) max_count
