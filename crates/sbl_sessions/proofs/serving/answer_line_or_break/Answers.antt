use Rattle.std.proofs.Common.{inl, refl, subst}
use Rattle.sbl_bench.specs.KeptRuns.{contents_of}
use Rattle.sbl_sessions.specs.CommandViews.{IsAnswerOrBreak}
use Rattle.sbl_sessions.specs.Commands.{Command}
use Rattle.sbl_sessions.proofs.serving.answer_line_or_break.Goals as goal

pub returns-in-Limit : goal.returns-in-Limit
returns-in-Limit g c =
    let s = contents_of c.args.bench.now in
    let t = contents_of c.limit_or_break.new.bench in
    let said = g.B.BreakOff.said c.args.break_off.now in
    let said_now = g.B.BreakOff.said c.limit_or_break.new.break_off in
    subst (λ (x : Command). IsAnswerOrBreak said said_now s x c.limit_or_break.result t) c.in-Limit.ensures c.limit_or_break.ensures

pub returns-in_default : goal.returns-in_default
returns-in_default g c = inl (refl, c.answer_line.ensures)
