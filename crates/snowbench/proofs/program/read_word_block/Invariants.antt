use Rattle.std.proofs.Common.{◌≡◌, List, ℕ}
use Rattle.sbl_reports.specs.Block.{BlockLines}
use Rattle.snowbench.specs.WholeCheck.{list_text}
use Rattle.sbl_io.specs.HeldInput.{KeepsTime, Took, fuel_of, input_of, reads_bound}
use Rattle.snowbench.proofs.program.read_word_block.Given as goal

-- the lines so far, which were read in time
abbrev pub invariant-loop-text : goal.invariant-loop-text
invariant-loop-text g l = (taken : List (List ℕ)) × BlockLines taken × Took (input_of g.R.Source.left l.fn.lines) (input_of g.R.Source.left l.lines) taken
    × (l.text.items ≡ list_text taken) × (l.lines.fault ≡ l.fn.lines.fault)
    × ((g.R.Source.tally l.lines.reader).failures ≡ (g.R.Source.tally l.fn.lines.reader).failures)
    × (reads_bound g.R.Source.tally l.lines ≡ reads_bound g.R.Source.tally l.fn.lines)
    × KeepsTime g.R.Source.tally l.fn.lines l.lines

abbrev pub decreases-loop-text : goal.decreases-loop-text
decreases-loop-text g l = fuel_of l.lines
