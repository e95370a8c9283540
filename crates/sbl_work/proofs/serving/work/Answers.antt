use Rattle.std.proofs.Common.{List, ℕ, subst, string_bytes}
use Rattle.std.specs.Option.{is_some}
use Rattle.sbl_io.specs.HeldInput.{input_of}
use Rattle.sbl_sessions.specs.Session.{Ends}
use Rattle.sbl_work.specs.WholeWork.{IsWholeWork}
use Rattle.sbl_work.proofs.serving.work.Goals as goal

pub returns-in-Ok-clause-works : goal.returns-in-Ok-clause-works
returns-in-Ok-clause-works g c = λ none.
    subst (λ (prompt : List ℕ). IsWholeWork (Ends g.R.Source.tally g.W.Sink.tally c.args.lines.now c.work_on.new.lines c.args.writer.now c.work_on.new.writer) (is_some c.args.paths.now.stop)
    (string_bytes c.args.paths.now.external) prompt (input_of g.R.Source.left c.args.lines.now) (input_of g.R.Source.left c.work_on.new.lines) (g.W.Sink.held c.args.writer.now) (g.W.Sink.held c.work_on.new.writer) 0)
    c.prompt_of.ensures (c.in-Ok.ensures.works none)

pub returns-after-fault-clause-works : goal.returns-after-fault-clause-works
returns-after-fault-clause-works g c = λ none.
    subst (λ (prompt : List ℕ). IsWholeWork (Ends g.R.Source.tally g.W.Sink.tally c.args.lines.now c.work_on.new.lines c.args.writer.now c.work_on.new.writer) (is_some c.args.paths.now.stop)
    (string_bytes c.args.paths.now.external) prompt (input_of g.R.Source.left c.args.lines.now) (input_of g.R.Source.left c.work_on.new.lines) (g.W.Sink.held c.args.writer.now) (g.W.Sink.held c.work_on.new.writer) 1)
    c.prompt_of.ensures (c.in-Err.ensures.works none)
