use Rattle.std.proofs.Common.{inl, inr, refl, rules, codes}
use Rattle.std.proofs.KnownBytes.{Appends-nil}
use Rattle.snowbench.specs.Program.{fault_line}
use Rattle.snowbench.proofs.AnswerFacts.{writes_line}
use Rattle.snowbench.proofs.program.run.Goals as goal

pub returns-in-Ok-clause-runs : goal.returns-in-Ok-clause-runs
returns-in-Ok-clause-runs g c =
    let made = c.in-Ok.ensures in
    inr (record {
      lines = c.in-Ok.lines;
      last = c.run_with.new.lines;
      made = record { input = made.input; fault = made.fault; counts = made.tally; bound = made.bound; in_time = made.in_time };
      in_time = c.run_with.ensures.reads_in_time;
      bound = c.run_with.ensures.bound;
      runs = c.run_with.ensures.runs made.fault;
    })

pub returns-in-Err-clause-runs : goal.returns-in-Err-clause-runs
returns-in-Err-clause-runs g c =
    inl (
      refl,
      Appends-nil (g.W.Sink.held c.args.writer.now),
      writes_line g.E.Sink.held g.E.Sink.tally c.args.errors.now c.write_all.new.writer c.as_bytes.result.now (fault_line (codes "49 OutOfMemory")) c.write_all.result
          (search rules) c.write_all.ensures.all c.write_all.ensures.prefix c.write_all.ensures.why,
    )
