use Rattle.sbl_rows.specs.Sides.{several}
use Rattle.sbl_rows.specs.Views.{view_change, view_stem_class}
use Rattle.sbl_rows.proofs.Loops.{step}
use Rattle.sbl_rows.proofs.class_changes.push_several.Goals as goal

pub loop-class-preserved : goal.loop-class-preserved
loop-class-preserved c =
    step (λ d. several c.args.side d d.members) view_stem_class view_change c.args.classes.now c.loop-class.class-index c.class-item.result c.class-item.result
    _ _ _ _ c.loop-class-test.true c.class-item.is c.in_ok-push_some.ensures c.in_ok-several.ensures c.loop-class.invariant
