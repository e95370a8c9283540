use Rattle.std.proofs.Common.{◌∙◌, arith}
use Rattle.sbl_io.proofs.Utf8.{one_more}
use Rattle.sbl_io.proofs.text_buffer.put_all.Goals as goal

pub loop-c-preserved : goal.loop-c-preserved
loop-c-preserved c = (
  omega (arith, c.put_character-end.ensures.end, c.loop-c.invariant.0),
  c.put_character-end.ensures.room ∙ c.loop-c.invariant.1,
  one_more c.args.characters.now c.loop-c.c-index c.c-item.result _ _ c.loop-c-test.true c.c-item.is c.loop-c.invariant.2 c.put_character-end.ensures.text,
)
