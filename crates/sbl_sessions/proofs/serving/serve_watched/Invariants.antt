use Rattle.std.proofs.Common.{◌≡◌, IsSome}
use Rattle.std.specs.Io.KnownBytes.{Keeps}
use Rattle.sbl_bench.specs.KeptRuns.{contents_of}
use Rattle.sbl_io.specs.Devices.{WritesInTime}
use Rattle.sbl_io.specs.HeldInput.{KeepsTime, TakesFeeds, fuel_of, input_of, reads_bound}
use Rattle.sbl_sessions.specs.Session.{Replies, moment}
use Rattle.sbl_sessions.proofs.serving.serve_watched.Given as goal

abbrev pub invariant-loop-row : goal.invariant-loop-row
invariant-loop-row g l = record {
  session : Replies (moment g.R.Source.left g.W.Sink.held l.fn.lines l.fn.writer l.fn.bench) (moment g.R.Source.left g.W.Sink.held l.lines l.writer l.bench);
  fault : l.lines.fault ≡ l.fn.lines.fault;
  feeds : TakesFeeds g.R.Source.left l.fn.lines l.lines;
  read : (g.R.Source.tally l.lines.reader).failures ≡ (g.R.Source.tally l.fn.lines.reader).failures;
  written : (g.W.Sink.tally l.writer).failures ≡ (g.W.Sink.tally l.fn.writer).failures;
  bound : reads_bound g.R.Source.tally l.lines ≡ reads_bound g.R.Source.tally l.fn.lines;
  untouched : IsSome l.fn.lines.fault → (contents_of l.bench ≡ contents_of l.fn.bench) × Keeps (g.W.Sink.held l.fn.writer) (g.W.Sink.held l.writer)
      × Keeps (input_of g.R.Source.left l.fn.lines) (input_of g.R.Source.left l.lines);
  reads : KeepsTime g.R.Source.tally l.fn.lines l.lines;
  writes : WritesInTime g.W.Sink.tally l.fn.writer l.writer;
  rested : (g.W.Sink.tally l.fn.writer).interruptions ≡ 0 → (g.W.Sink.tally l.writer).interruptions ≡ 0;
}

abbrev pub decreases-loop-row : goal.decreases-loop-row
decreases-loop-row g l = fuel_of l.lines
