use Rattle.std.proofs.Common.{ap}
use Rattle.sbl_rows.specs.Changes as spec
use Rattle.sbl_rows.specs.Views.{view_change, view_stem_class, view_stem_classes}
use Rattle.sbl_rows.proofs.Loops.{step}
use Rattle.sbl_rows.proofs.class_changes.push_renamed.Goals as goal

pub loop-class-preserved : goal.loop-class-preserved
loop-class-preserved c =
    step (λ d. spec.class_renaming (view_stem_classes c.args.now.now) d d.members) view_stem_class view_change c.args.before.now c.loop-class.class-index c.class-item.result c.class-item.result
    _ _ _ _ c.loop-class-test.true c.class-item.is c.in_ok-push_some.ensures
    (c.class_renaming.ensures (view_stem_classes c.args.now.now) (λ q. ap (λ h. h q) c.in_ok-from_one.ensures))
    c.loop-class.invariant
