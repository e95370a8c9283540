use Rattle.std.proofs.Common.{◌≡◌, ◌++◌, drop}
use Rattle.std.specs.List.{filter_map}
use Rattle.sbl_rows.specs.Changes.{view_changes}
use Rattle.sbl_rows.specs.Classes.{view_stem_classes}
use Rattle.sbl_rows.specs.Sides.{several}
use Rattle.sbl_rows.proofs.class_changes.push_several.Given as goal

-- the changes so far, and those of the classes still to come
abbrev pub invariant-loop-class : goal.invariant-loop-class
invariant-loop-class l =
    view_changes l.changes.items ++ filter_map (λ c. several l.side c c.members) (view_stem_classes (drop l.class-index l.classes))
    ≡ view_changes l.initial.changes.items ++ filter_map (λ c. several l.side c c.members) (view_stem_classes l.classes)
