use Rattle.sbl_io.proofs.Utf8.{one_more}
use Rattle.sbl_io.proofs.records.set_text.Goals as goal

pub loop-c-preserved : goal.loop-c-preserved
loop-c-preserved c =
    one_more c.args.characters.now c.loop-c.c-index c.c-item.result _ _ c.loop-c-test.true c.c-item.is c.loop-c.invariant c.in_ok-push.ensures.bytes
