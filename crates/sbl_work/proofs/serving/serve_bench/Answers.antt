use Rattle.std.proofs.Common.{refl}
use Rattle.sbl_bench.specs.KeptRuns.{contents_of}
use Rattle.sbl_io.specs.HeldInput.{input_of}
use Rattle.sbl_sessions.specs.Session.{Ends}
use Rattle.sbl_history.specs.Desks.{state_of}
use Rattle.sbl_work.proofs.WholeFacts.{works_from}
use Rattle.sbl_work.proofs.serving.serve_bench.Goals as goal

pub returns-clause-works : goal.returns-clause-works
returns-clause-works g c = λ none.
    let read = g.R.Source in
    let write = g.W.Sink in
    works_from (Ends read.tally write.tally c.args.lines.now c.serve-served.new.lines c.args.writer.now c.serve-served.new.writer)
    c.args.may_break c.args.text.items c.args.text.items c.args.prompt.now (input_of read.left c.args.lines.now) (input_of read.left c.serve-served.new.lines) (write.held c.args.writer.now) (write.held c.serve-served.new.writer)
    (contents_of c.args.bench.now) (contents_of c.serve-served.new.bench) (state_of c.in_ok-desk.desk) (state_of c.serve-served.new.desk) c.serve-served.result refl c.in_ok-desk.ensures (c.serve-served.ensures.work none) c.serve-served.ensures.ends
