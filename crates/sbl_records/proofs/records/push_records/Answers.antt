use Rattle.sbl_io.proofs.Taking.{takes-none, takes-same, takes-then}
use Rattle.sbl_records.proofs.RecordFacts.{records_more}
use Rattle.sbl_records.proofs.records.push_records.Goals as goal

pub loop-value-init : goal.loop-value-init
loop-value-init g c = takes-none g.R.Report.has_taken c.args.out.now

pub loop-value-preserved : goal.loop-value-preserved
loop-value-preserved g c =
    let has = g.R.Report.has_taken in
    takes-same has c.args.out.now c.push_record.new.out _ _
    (records_more g.T.Record.fields c.args.records.now c.loop-value.value-index c.value-item.result c.loop-value-test.true c.value-item.is)
    (takes-then has c.args.out.now c.loop-value.out c.push_record.new.out _ _ c.loop-value.invariant c.in_ok-push_record.ensures)
