use Rattle.std.proofs.Common.{Bool, string_bytes, subst}
use Rattle.sbl_bench.specs.KeptRuns.{contents_of}
use Rattle.sbl_io.specs.HeldInput.{input_of}
use Rattle.sbl_sessions.specs.Session.{Ends}
use Rattle.sbl_work.specs.WholeWork.{IsWholeWork}
use Rattle.sbl_work.proofs.WholeFacts.{whole_end, whole_fault}
use Rattle.sbl_work.proofs.serving.work_on.Goals as goal

pub returns-in-Err-clause-works : goal.returns-in-Err-clause-works
returns-in-Err-clause-works g c = λ none.
    let read = g.R.Source in
    let write = g.W.Sink in
    let served = c.serve_bench-served in
    subst (λ (m : Bool). IsWholeWork (Ends read.tally write.tally c.args.lines.now served.new.lines c.args.writer.now served.new.writer) m
    (string_bytes c.args.paths.now.external) c.args.prompt.now (input_of read.left c.args.lines.now) (input_of read.left served.new.lines)
    (write.held c.args.writer.now) (write.held served.new.writer) 1) c.is_some.ensures (
    whole_fault (Ends read.tally write.tally c.args.lines.now served.new.lines c.args.writer.now served.new.writer) c.is_some.result
    (string_bytes c.args.paths.now.external) c.in_ok-bench.texts.text.items c.args.prompt.now (input_of read.left c.args.lines.now) (input_of read.left served.new.lines)
    (write.held c.args.writer.now) (write.held served.new.writer) (contents_of c.in_ok-bench.bench) c.in-Err.fault c.in_ok-bench.ensures (c.in-Err.ensures.works none))

pub returns-in-Ok-clause-works : goal.returns-in-Ok-clause-works
returns-in-Ok-clause-works g c = λ none.
    let read = g.R.Source in
    let write = g.W.Sink in
    let served = c.serve_bench-served in
    subst (λ (m : Bool). IsWholeWork (Ends read.tally write.tally c.args.lines.now served.new.lines c.args.writer.now served.new.writer) m
    (string_bytes c.args.paths.now.external) c.args.prompt.now (input_of read.left c.args.lines.now) (input_of read.left served.new.lines)
    (write.held c.args.writer.now) (write.held served.new.writer) 0) c.is_some.ensures (
    whole_end (Ends read.tally write.tally c.args.lines.now served.new.lines c.args.writer.now served.new.writer) c.is_some.result
    (string_bytes c.args.paths.now.external) c.in_ok-bench.texts.text.items c.args.prompt.now (input_of read.left c.args.lines.now) (input_of read.left served.new.lines)
    (write.held c.args.writer.now) (write.held served.new.writer) (contents_of c.in_ok-bench.bench) _ c.in_ok-bench.ensures (c.in-Ok.ensures.works none))
