use Rattle.std.proofs.Common.{◌≡◌, ◌≤◌, List, ℕ, map}
use Rattle.std.specs.Str.{chars}
use Rattle.sbl_reports.specs.Block.{NoPoint}
use Rattle.sbl_input.specs.Loading.{AllText}
use Rattle.sbl_input.specs.WordLists.{HoldsWords}
use Rattle.sbl_io.specs.HeldInput.{AllFit, KeepsTime, Took, fuel_of, input_of, reads_bound}
use Rattle.sbl_input.proofs.loading.read_words.Given as goal

abbrev pub invariant-loop-words : goal.invariant-loop-words
invariant-loop-words g l = (taken : List (List ℕ)) × NoPoint taken × AllText taken × Took (input_of g.R.Source.left l.fn.lines) (input_of g.R.Source.left l.lines) taken
    × HoldsWords l.words (map chars taken) × (l.lines.fault ≡ l.fn.lines.fault)
    × ((g.R.Source.tally l.fn.lines.reader).failures ≤ (g.R.Source.tally l.lines.reader).failures)
    × AllFit taken × (reads_bound g.R.Source.tally l.lines ≡ reads_bound g.R.Source.tally l.fn.lines)
    × KeepsTime g.R.Source.tally l.fn.lines l.lines
    × ((g.R.Source.tally l.lines.reader).failures ≡ (g.R.Source.tally l.fn.lines.reader).failures)

abbrev pub decreases-loop-words : goal.decreases-loop-words
decreases-loop-words g l = fuel_of l.lines
