use Rattle.std.proofs.Common.{inr, refl}
use Rattle.sbl_bench.specs.KeptRuns.{contents_of}
use Rattle.sbl_bench.specs.declared.fault.EditFault.TheVariants as fault
use Rattle.sbl_history.specs.Desks.{state_of}
use Rattle.sbl_history.specs.Refused.{view_refused}
use Rattle.sbl_text.specs.declared.fault.ScriptFault.TheVariants as script
use Rattle.sbl_work.proofs.ReplyFacts.{whole_noted, whole_refused}
use Rattle.sbl_work.proofs.answers.replace_by_bytes.Goals as goal

pub returns-in_default : goal.returns-in_default
returns-in_default g c =
    let s = contents_of c.args.bench.now in
    let d = state_of c.args.desk.now in
    (d, whole_refused s d c.args.bytes.now fault.OutOfMemory (inr refl), refl)

pub returns : goal.returns
returns g c =
    whole_noted (contents_of c.args.bench.now) (contents_of c.replace-answer.new.bench) (state_of c.args.desk.now) (state_of c.replace-answer.new.self) (state_of c.note_whole.new.desk)
    c.args.bytes.now c.replace-answer.result c.note_whole.result (view_refused c.in-Ok.refused) c.replace-answer.ensures.replaces c.note_whole.ensures.same c.note_whole.ensures.desk
    (c.in-Ok.ensures script.NotUtf8)
