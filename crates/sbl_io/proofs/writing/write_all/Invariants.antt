use Rattle.std.proofs.Common.{◌≡◌, ◌≤◌, ◌-◌, length, take}
use Rattle.std.specs.Io.KnownBytes.{Appends}
use Rattle.sbl_io.specs.Devices.{WritesInTime}
use Rattle.sbl_io.proofs.writing.write_all.Given as goal

abbrev pub invariant-loop-written : goal.invariant-loop-written
invariant-loop-written g l = (l.written ≤ length l.bytes) × Appends (g.W.Sink.held l.fn.writer) (g.W.Sink.held l.writer) (take l.written l.bytes)
    × ((g.W.Sink.tally l.writer).failures ≡ (g.W.Sink.tally l.fn.writer).failures) × WritesInTime g.W.Sink.tally l.fn.writer l.writer
    × ((g.W.Sink.tally l.fn.writer).interruptions ≡ 0 → (g.W.Sink.tally l.writer).interruptions ≡ 0)

abbrev pub decreases-loop-written : goal.decreases-loop-written
decreases-loop-written g l = length l.bytes - l.written
