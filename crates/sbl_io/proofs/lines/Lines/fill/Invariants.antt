use Rattle.std.proofs.Common.{◌≡◌, ◌≤◌, false}
use Rattle.std.specs.Io.KnownBytes.{Keeps}
use Rattle.sbl_io.specs.HeldInput.{AreAsked, line_of, input_of, reads_bound}
use Rattle.sbl_io.proofs.lines.Lines.fill.Given as goal

abbrev pub invariant-loop : goal.invariant-loop
invariant-loop g l = (l.self.at ≡ l.self.end) × Keeps (input_of g.R.Source.left l.fn.self) (g.R.Source.left l.self.reader)
    × (line_of l.self ≡ line_of l.fn.self) × ((g.R.Source.tally l.self.reader).failures ≡ (g.R.Source.tally l.fn.self.reader).failures)
    × (l.counter ≤ (g.R.Source.tally l.self.reader).interruptions)
    × (l.self.fault ≡ l.fn.self.fault)
    × (l.self.reads_left ≤ l.fn.self.reads_left)
    × (reads_bound g.R.Source.tally l.self ≡ reads_bound g.R.Source.tally l.fn.self)
    × (l.self.ended ≡ false)
    × (AreAsked g.R.Source.tally l.fn.self → (g.R.Source.tally l.fn.self.reader).interruptions ≡ 0
    → AreAsked g.R.Source.tally l.self × ((g.R.Source.tally l.self.reader).interruptions ≡ l.counter))
