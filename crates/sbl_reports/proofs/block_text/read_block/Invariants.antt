use Rattle.std.proofs.Common.{◌≡◌, ◌≤◌, IsSome, List, ℕ}
use Rattle.std.specs.Io.KnownBytes.{Keeps}
use Rattle.sbl_reports.specs.Block.{BlockLines, HoldsText}
use Rattle.sbl_io.specs.HeldInput.{KeepsTime, StaysEnded, TakesFeeds, Took, fuel_of, input_of, reads_bound}
use Rattle.sbl_reports.proofs.block_text.read_block.Given as goal

abbrev pub invariant-loop-text : goal.invariant-loop-text
invariant-loop-text g l = (taken : List (List ℕ)) × BlockLines taken × Took (input_of g.R.Source.left l.fn.lines) (input_of g.R.Source.left l.lines) taken
    × HoldsText l.text taken × (l.lines.fault ≡ l.fn.lines.fault) × ((g.R.Source.tally l.lines.reader).failures ≡ (g.R.Source.tally l.fn.lines.reader).failures)
    × (reads_bound g.R.Source.tally l.lines ≡ reads_bound g.R.Source.tally l.fn.lines) × (fuel_of l.lines ≤ fuel_of l.fn.lines)
    × (IsSome l.fn.lines.fault → Keeps (input_of g.R.Source.left l.fn.lines) (input_of g.R.Source.left l.lines))
    × StaysEnded l.fn.lines l.lines × TakesFeeds g.R.Source.left l.fn.lines l.lines
    × KeepsTime g.R.Source.tally l.fn.lines l.lines

abbrev pub decreases-loop-text : goal.decreases-loop-text
decreases-loop-text g l = fuel_of l.lines
