use Rattle.std.proofs.Common.{◌≡◌, ◌+◌, ◌≤◌, length}
use Rattle.sbl_io.specs.LinesOf.{lines_of}
use Rattle.sbl_reports.specs.StemLines.{are_text}
use Rattle.sbl_reports.proofs.written_stems.text_line_count.Given as goal

-- the lines so far are text and were counted
abbrev pub invariant-loop-line : goal.invariant-loop-line
invariant-loop-line l = record {
  text : are_text (lines_of l.rest) ≡ are_text (lines_of l.fn.bytes);
  counted : l.count + length (lines_of l.rest) ≡ length (lines_of l.fn.bytes);
  room : l.count + length l.rest ≤ length l.fn.bytes;
}

abbrev pub decreases-loop-line : goal.decreases-loop-line
decreases-loop-line l = length l.rest
