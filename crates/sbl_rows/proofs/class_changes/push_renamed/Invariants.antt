use Rattle.std.proofs.Common.{◌≡◌, ◌++◌, drop}
use Rattle.std.specs.List.{filter_map}
use Rattle.sbl_rows.specs.Changes as spec
use Rattle.sbl_rows.specs.Changes.{view_changes}
use Rattle.sbl_rows.specs.Classes.{view_stem_classes}
use Rattle.sbl_rows.proofs.class_changes.push_renamed.Given as goal

-- the changes so far, and those of the classs still to come
abbrev pub invariant-loop-class : goal.invariant-loop-class
invariant-loop-class l =
    view_changes l.changes.items ++ filter_map (λ c. spec.class_renaming (view_stem_classes l.now) c c.members) (view_stem_classes (drop l.class-index l.before))
    ≡ view_changes l.initial.changes.items ++ filter_map (λ c. spec.class_renaming (view_stem_classes l.now) c c.members) (view_stem_classes l.before)
