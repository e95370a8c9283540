use Rattle.std.proofs.Common.{length}
use Rattle.sbl_messages.proofs.blocks.split_at_line.Given as goal

abbrev pub decreases-loop-line : goal.decreases-loop-line
decreases-loop-line l = length l.rest
