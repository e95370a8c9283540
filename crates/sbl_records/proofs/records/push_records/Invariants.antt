use Rattle.std.proofs.Common.{map, take}
use Rattle.sbl_io.specs.Records.{records_text}
use Rattle.sbl_io.specs.Reports.{TakesMore}
use Rattle.sbl_records.proofs.records.push_records.Given as goal

abbrev pub invariant-loop-value : goal.invariant-loop-value
invariant-loop-value g l = TakesMore g.R.Report.has_taken l.initial.out l.out (records_text (map g.T.Record.fields (take l.value-index l.records)))
