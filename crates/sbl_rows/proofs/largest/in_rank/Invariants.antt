use Rattle.std.proofs.Common.{◌≡◌, ◌++◌, map}
use Rattle.sbl_rows.specs.Classes.{view_stem_classes}
use Rattle.sbl_rows.specs.Ranking.{view_entry}
use Rattle.sbl_rows.proofs.largest.in_rank.Given as goal

-- the classes so far, and those still to come
abbrev pub invariant-loop-stem : goal.invariant-loop-stem
invariant-loop-stem l = view_stem_classes l.classes.items ++ map view_entry l.stem-iterator ≡ map view_entry l.initial.stem-iterator
