use Rattle.std.proofs.Common.{ℕ, Bool, subst}
use Rattle.sbl_bench.specs.KeptRuns.{contents_of}
use Rattle.sbl_history.specs.Desks.{state_of}
use Rattle.sbl_history.specs.Editing.{NotesLimit}
use Rattle.sbl_sessions.specs.Commands.{line_command}
use Rattle.sbl_work.specs.ReplyViews.{IsSessionAnswer}
use Rattle.sbl_work.proofs.ReplyFacts.{session_answer}
use Rattle.sbl_work.proofs.answers.session.Goals as goal

pub returns : goal.returns
returns g c =
    let s = contents_of c.args.bench.now in
    let t = contents_of c.session_reply-reply.new.bench in
    let d = state_of c.args.desk.now in
    let e = state_of c.note_limit.new.self in
    let k = line_command c.args.line.now in
    let r = c.session_reply-reply.result in
    session_answer s t d e k r (subst (λ (m : Bool). IsSessionAnswer m s k r t) c.may_break.ensures c.session_reply-reply.ensures)
    (subst (λ (n : ℕ). NotesLimit n t d e) c.limit-before.ensures c.note_limit.ensures)
