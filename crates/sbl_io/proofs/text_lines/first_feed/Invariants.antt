use Rattle.std.proofs.Common.{◌≤◌, length, take}
use Rattle.sbl_io.specs.inside.LineSteps.{NoFeed}
use Rattle.sbl_io.proofs.text_lines.first_feed.Given as goal

abbrev pub invariant-loop-at : goal.invariant-loop-at
invariant-loop-at l = (l.at ≤ length l.bytes) × NoFeed (take l.at l.bytes)
