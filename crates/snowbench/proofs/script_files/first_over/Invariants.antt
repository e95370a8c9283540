use Rattle.std.proofs.Common.{◌≡◌, ◌+◌, ◌≤◌, length}
use Rattle.sbl_io.specs.LinesOf.{lines_of}
use Rattle.snowbench.specs.ScriptFiles.{first_after}
use Rattle.snowbench.specs.inside.LineMeasures.{is_over}
use Rattle.snowbench.proofs.script_files.first_over.Given as goal

abbrev pub invariant-loop-line : goal.invariant-loop-line
invariant-loop-line l = record {
  first : first_after (is_over l.measure) l.number (lines_of l.rest) ≡ first_after (is_over l.measure) 0 (lines_of l.fn.bytes);
  numbered : l.number + length l.rest ≤ length l.fn.bytes;
}

abbrev pub decreases-loop-line : goal.decreases-loop-line
decreases-loop-line l = length l.rest
