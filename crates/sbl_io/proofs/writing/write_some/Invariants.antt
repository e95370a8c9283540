use Rattle.std.proofs.Common.{◌≡◌, ◌≤◌, false}
use Rattle.std.specs.Io.KnownBytes.{Keeps}
use Rattle.sbl_io.proofs.writing.write_some.Given as goal

abbrev pub invariant-loop : goal.invariant-loop
invariant-loop g l = Keeps (g.W.Sink.held l.fn.writer) (g.W.Sink.held l.writer)
    × ((g.W.Sink.tally l.writer).failures ≡ (g.W.Sink.tally l.fn.writer).failures)
    × (l.counter ≤ (g.W.Sink.tally l.writer).interruptions)
    × ((g.W.Sink.tally l.fn.writer).late ≡ false → (g.W.Sink.tally l.fn.writer).interruptions ≡ 0 → ((g.W.Sink.tally l.writer).late ≡ false) × ((g.W.Sink.tally l.writer).interruptions ≡ l.counter))
