use Rattle.std.proofs.Common.{rules}
use Rattle.snowbench.proofs.AnswerFacts.{reported_fault}
use Rattle.snowbench.proofs.program.push_fault.Goals as goal

pub returns-clause-reported : goal.returns-clause-reported
returns-clause-reported g c = λ answer is.
    reported_fault g.E.Sink.held g.E.Sink.tally c.args.errors.now c.write_all.new.writer c.args.fault answer c.line_of_fault-line.ensures.0 c.as_bytes.result.now c.write_all.result is
    (search rules) c.write_all.ensures.all c.write_all.ensures.prefix c.write_all.ensures.why
