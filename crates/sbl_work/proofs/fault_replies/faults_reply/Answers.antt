use Rattle.sbl_bench.specs.KeptRuns.{contents_of}
use Rattle.sbl_history.specs.Desks.{state_of}
use Rattle.sbl_history.specs.Refused.{view_refused}
use Rattle.sbl_work.specs.FaultReplies.{IsRefusedText}
use Rattle.sbl_work.proofs.FaultFacts.{rows_reply, kept_reply}
use Rattle.sbl_work.proofs.fault_replies.faults_reply.Goals as goal

pub returns-in-Some : goal.returns-in-Some
returns-in-Some c =
    let s = contents_of c.args.bench.now in
    let d = state_of c.args.desk.now in
    let x = view_refused c.in-Some.refused.now in
    kept_reply s d c.report.result d.refused x c.in-Some.ensures
    (rows_reply (IsRefusedText s x) s d c.text_of_refused.result c.report.result c.text_of_refused.ensures c.report.ensures.made c.report.ensures.refused)
