use Rattle.std.proofs.Common.{rules}
use Rattle.std.specs.Str.{chars}
use Rattle.sbl_text.specs.Pieces as spec
use Rattle.sbl_text.specs.inside.PieceParts as parts
use Rattle.sbl_text.proofs.Whole.{gap_more, true_of_same}
use Rattle.sbl_text.proofs.pieces.past_gaps.Goals as goal

pub loop-shape-preserved : goal.loop-shape-preserved
loop-shape-preserved c = (
  search rules,
  gap_more (parts.setting c.args.inserts c.args.wanted) (chars c.args.text.now) (chars c.loop-shape.text.now) (chars c.in-Some.rest.now) c.in-Some.shape
      c.loop-shape.invariant.1 c.in-Some.ensures.value (true_of_same c.is_gap.result (spec.is_gap c.in-Some.shape) c.is_gap.ensures c.if-not-is_gap.false),
)
