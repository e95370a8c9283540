use Rattle.std.proofs.Common.{◌≡◌, ◌++◌, length, map}
use Rattle.std.specs.Str.{chars}
use Rattle.sbl_input.specs.FileWords.{file_lines, file_words, first_line_fault}
use Rattle.sbl_io.specs.LinesOf.{lines_of}
use Rattle.sbl_input.proofs.file_words.words_in.Given as goal

-- the words so far, and those of the lines still to come; no line so far has a fault
abbrev pub invariant-loop-line : goal.invariant-loop-line
invariant-loop-line l = record {
  words : map (λ w. w.items) l.words.items ++ map chars (lines_of l.rest) ≡ file_words l.fn.bytes;
  fault : first_line_fault (lines_of l.rest) ≡ first_line_fault (file_lines l.fn.bytes);
}

abbrev pub decreases-loop-line : goal.decreases-loop-line
decreases-loop-line l = length l.rest
