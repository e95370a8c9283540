use Rattle.sbl_work.proofs.ServingFacts.{stops_in_first, stops_in_second}
use Rattle.sbl_work.proofs.serving.write_prompted.Goals as goal

pub returns-clause-prefix : goal.returns-clause-prefix
returns-clause-prefix g c = λ text is.
    stops_in_second (g.W.Sink.held c.args.writer.now) (g.W.Sink.held c.write_reply.new.writer) (g.W.Sink.held c.write_all.new.writer) c.write_all.ensures.prefix.0 text c.args.prompt.now
    (c.in_ok-write_reply.ensures.all text is) c.write_all.ensures.prefix.1

pub returns-in_err-write_reply-clause-prefix : goal.returns-in_err-write_reply-clause-prefix
returns-in_err-write_reply-clause-prefix g c = λ text is.
    stops_in_first (g.W.Sink.held c.args.writer.now) (g.W.Sink.held c.write_reply.new.writer) c.write_reply.ensures.prefix.0 text c.args.prompt.now (c.write_reply.ensures.prefix.1 text is)
