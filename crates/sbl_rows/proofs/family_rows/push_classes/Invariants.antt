use Rattle.std.proofs.Common.{◌≡◌, ◌++◌, drop}
use Rattle.std.specs.List.{filter_map}
use Rattle.sbl_rows.specs.Families as spec
use Rattle.sbl_rows.specs.Families.{view_results}
use Rattle.sbl_rows.specs.Classes.{view_stem_classes}
use Rattle.sbl_rows.proofs.family_rows.push_classes.Given as goal

-- the rows so far, and those of the classes still to come
abbrev pub invariant-loop-class : goal.invariant-loop-class
invariant-loop-class l =
    view_results l.rows.items ++ filter_map (λ c. spec.over c.stem c.members) (view_stem_classes (drop l.class-index l.classes))
    ≡ view_results l.initial.rows.items ++ filter_map (λ c. spec.over c.stem c.members) (view_stem_classes l.classes)
