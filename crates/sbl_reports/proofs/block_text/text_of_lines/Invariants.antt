use Rattle.std.proofs.Common.{◌≡◌, ◌++◌, length}
use Rattle.sbl_io.specs.LinesOf.{lines_of}
use Rattle.sbl_reports.specs.Block.{made_text}
use Rattle.sbl_reports.proofs.block_text.text_of_lines.Given as goal

abbrev pub invariant-loop-line : goal.invariant-loop-line
invariant-loop-line l = l.text.items ++ made_text (lines_of l.rest) ≡ made_text (lines_of l.fn.bytes)

abbrev pub decreases-loop-line : goal.decreases-loop-line
decreases-loop-line l = length l.rest
