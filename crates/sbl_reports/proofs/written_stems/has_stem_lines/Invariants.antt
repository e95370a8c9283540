use Rattle.std.proofs.Common.{◌≡◌, true, take}
use Rattle.sbl_bench.specs.Contents.{rows_now}
use Rattle.sbl_bench.specs.KeptRuns.{contents_of}
use Rattle.sbl_reports.specs.StemLines.{have_lines}
use Rattle.sbl_reports.proofs.written_stems.has_stem_lines.Given as goal

-- the rows before the index have lines
abbrev pub invariant-loop-i : goal.invariant-loop-i
invariant-loop-i l = have_lines (take l.i (rows_now (contents_of l.bench))) ≡ true
