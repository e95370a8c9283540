use Rattle.std.proofs.Common.{arith}
use Rattle.sbl_io.proofs.TextFacts.{free_more}
use Rattle.sbl_io.proofs.text_lines.first_feed.Goals as goal

pub loop-at-preserved : goal.loop-at-preserved
loop-at-preserved c = (
  omega arith,
  free_more c.args.bytes.now c.loop-at.at (omega arith) c.loop-at.invariant.1 c.if-bytes-at-eq10.false,
)
