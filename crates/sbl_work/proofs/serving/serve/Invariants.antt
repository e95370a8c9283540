use Rattle.std.proofs.Common.{◌≡◌}
use Rattle.sbl_bench.specs.KeptRuns.{contents_of}
use Rattle.sbl_io.specs.Devices.{WritesInTime}
use Rattle.sbl_io.specs.HeldInput.{KeepsTime, TakesFeeds, fuel_of, input_of, reads_bound}
use Rattle.sbl_history.specs.Desks.{state_of}
use Rattle.sbl_work.specs.Serving.{WorkRepliesToInput}
use Rattle.sbl_work.proofs.serving.serve.Given as goal

-- each request so far has its reply; what was read and written so far was in time
abbrev pub invariant-loop-lines : goal.invariant-loop-lines
invariant-loop-lines g l = record {
  work : WorkRepliesToInput l.prompt (input_of g.R.Source.left l.fn.lines) (input_of g.R.Source.left l.lines) (g.W.Sink.held l.fn.writer) (g.W.Sink.held l.writer) (contents_of l.fn.bench) (state_of l.fn.desk) (contents_of l.bench) (state_of l.desk);
  fault : l.lines.fault ≡ l.fn.lines.fault;
  feeds : TakesFeeds g.R.Source.left l.fn.lines l.lines;
  read : (g.R.Source.tally l.lines.reader).failures ≡ (g.R.Source.tally l.fn.lines.reader).failures;
  written : (g.W.Sink.tally l.writer).failures ≡ (g.W.Sink.tally l.fn.writer).failures;
  bound : reads_bound g.R.Source.tally l.lines ≡ reads_bound g.R.Source.tally l.fn.lines;
  reads : KeepsTime g.R.Source.tally l.fn.lines l.lines;
  writes : WritesInTime g.W.Sink.tally l.fn.writer l.writer;
  rested : (g.W.Sink.tally l.fn.writer).interruptions ≡ 0 → (g.W.Sink.tally l.writer).interruptions ≡ 0;
}

abbrev pub decreases-loop-lines : goal.decreases-loop-lines
decreases-loop-lines g l = fuel_of l.lines
