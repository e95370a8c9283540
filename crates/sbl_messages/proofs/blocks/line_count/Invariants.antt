use Rattle.std.proofs.Common.{length}
use Rattle.sbl_messages.proofs.blocks.line_count.Given as goal

abbrev pub decreases-loop-after : goal.decreases-loop-after
decreases-loop-after l = length l.rest
