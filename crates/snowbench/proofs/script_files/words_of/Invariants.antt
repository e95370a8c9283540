use Rattle.std.proofs.Common.{◌≡◌, ◌++◌, ◌+◌, ◌≤◌, length, map}
use Rattle.std.specs.Str.{chars}
use Rattle.sbl_io.specs.LinesOf.{lines_of}
use Rattle.snowbench.specs.ScriptFiles.{line_words, text_fault, text_fault_after}
use Rattle.snowbench.proofs.script_files.words_of.Given as goal

-- the words so far, and those of the lines still to come; no line so far has a fault
abbrev pub invariant-loop-line : goal.invariant-loop-line
invariant-loop-line l = record {
  words : map (λ w. w.items) l.words.items ++ map chars (lines_of l.rest) ≡ line_words l.fn.bytes;
  fault : text_fault_after l.number (lines_of l.rest) ≡ text_fault l.fn.bytes;
  numbered : l.number + length l.rest ≤ length l.fn.bytes;
}

abbrev pub decreases-loop-line : goal.decreases-loop-line
decreases-loop-line l = length l.rest
