use Rattle.std.proofs.Common.{◌≡◌, ◌≤◌, ◌+◌, [], vec_len}
use Rattle.std.specs.Io.KnownBytes.{Consumes}
use Rattle.sbl_io.specs.inside.LineSteps.{AsksInTime}
use Rattle.sbl_io.specs.HeldInput.{HoldsLine, fuel_of, line_of, input_of, reads_bound, StaysEnded}
use Rattle.sbl_io.specs.inside.LineSteps.{NoFeed}
use Rattle.sbl_io.proofs.lines.Lines.take_line.Given as goal

abbrev pub invariant-loop-byte : goal.invariant-loop-byte
invariant-loop-byte g l = Consumes (input_of g.R.Source.left l.fn.self) (input_of g.R.Source.left l.self) (line_of l.self)
    × NoFeed (line_of l.self) × (vec_len l.self.line ≤ 65537) × ((g.R.Source.tally l.self.reader).failures ≡ (g.R.Source.tally l.fn.self.reader).failures)
    × (l.self.fault ≡ l.fn.self.fault)
    × (vec_len l.self.line + fuel_of l.self ≤ fuel_of l.fn.self)
    × (reads_bound g.R.Source.tally l.self ≡ reads_bound g.R.Source.tally l.fn.self)
    × AsksInTime g.R.Source.tally l.fn.self l.self
    × ((g.R.Source.tally l.fn.self.reader).interruptions ≡ 0 → (g.R.Source.tally l.self.reader).interruptions ≡ 0)
    × StaysEnded l.fn.self l.self
    × (HoldsLine l.fn.self → HoldsLine l.self × (l.self.reader ≡ l.fn.self.reader) × (line_of l.self ≡ []))

abbrev pub decreases-loop-byte : goal.decreases-loop-byte
decreases-loop-byte g l = fuel_of l.self
