use Rattle.std.proofs.Common.{Result, subst}
use Rattle.sbl_bench.specs.KeptRuns.{contents_of}
use Rattle.sbl_bench.specs.declared.fault.EditFault.{EditFault}
use Rattle.sbl_history.specs.Desks.{state_of}
use Rattle.sbl_script.specs.Parts.{view_part}
use Rattle.sbl_sessions.specs.Answers.{edit_text}
use Rattle.sbl_sessions.specs.CommandViews.{IsReply}
use Rattle.sbl_sessions.specs.EditFaults.{fault_in}
use Rattle.sbl_work.proofs.ReplyFacts.{part_kept, part_refused}
use Rattle.sbl_work.proofs.parts.edit_part.Goals as goal

pub returns-in-Ok : goal.returns-in-Ok
returns-in-Ok g c = λ lines holds.
    let s = contents_of c.args.bench.now in
    let t = contents_of c.replace_part_kept.new.bench in
    let d = state_of c.args.desk.now in
    let e = state_of c.replace_part_kept.new.desk in
    let names = c.in-Ok.ensures lines holds in
    part_kept s t d e (view_part c.args.part) c.in-Ok.text.items lines c.replace_part_kept.result c.edit_reply.result names.0 names.1 c.replace_part_kept.ensures c.edit_reply.ensures

pub returns-in-Err : goal.returns-in-Err
returns-in-Err g c = λ lines holds.
    let r = c.edit_reply-in-Err.result in
    part_refused (contents_of c.args.bench.now) (state_of c.args.desk.now) (state_of c.note_whole.new.desk) (view_part c.args.part) lines c.in-Err.fault r (c.in-Err.ensures lines holds)
    c.note_whole.ensures.desk (subst (λ (x : Result (Unit {0}) EditFault). IsReply r (edit_text (fault_in x))) c.note_whole.ensures.same c.edit_reply-in-Err.ensures)
