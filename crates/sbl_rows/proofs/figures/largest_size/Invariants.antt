use Rattle.std.proofs.Common.{◌≡◌, drop, map, max}
use Rattle.sbl_rows.specs.Classes.{view_class}
use Rattle.sbl_rows.specs.Stats as spec
use Rattle.sbl_rows.proofs.figures.largest_size.Given as goal

-- the largest size so far, and those of the classes still to come
abbrev pub invariant-loop-class : goal.invariant-loop-class
invariant-loop-class l = max l.largest (spec.largest_size (map view_class (drop l.class-index l.classes))) ≡ spec.largest_size (map view_class l.classes)
