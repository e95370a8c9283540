use Rattle.std.proofs.Common.{◌≡◌, ◌++◌, length, map, true}
use Rattle.sbl_io.specs.LinesOf.{lines_of}
use Rattle.sbl_reports.specs.StemLines.{are_text, stems_in}
use Rattle.sbl_reports.proofs.written_stems.stems_in.Given as goal

-- the stems so far, and those of the lines still to come, which are text
abbrev pub invariant-loop-line : goal.invariant-loop-line
invariant-loop-line l = record {
  stems : map (λ s. s.items) l.stems.items ++ stems_in l.rest ≡ stems_in l.fn.bytes;
  text : are_text (lines_of l.rest) ≡ true;
}

abbrev pub decreases-loop-line : goal.decreases-loop-line
decreases-loop-line l = length l.rest
