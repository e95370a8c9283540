use Rattle.csv.specs.Records.{fields_of}
use Rattle.sbl_io.specs.Records.{record_line}
use Rattle.sbl_io.proofs.ReportFacts.{counted_record}
use Rattle.sbl_io.proofs.report.ReportLengthReport.push.Goals as goal

pub returns : goal.returns
returns c = λ text has. counted_record text (record_line (fields_of c.args.csv_record.now)) _ _ _ has c.line_length.ensures c.saturating_add-bytes.ensures
