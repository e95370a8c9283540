use Rattle.std.proofs.Common.{◌≡◌, [], drop}
use Rattle.sbl_rows.specs.Grouping as spec
use Rattle.sbl_rows.specs.Classes.{view_stem_classes}
use Rattle.sbl_rows.specs.Grouping.{view_pairs}
use Rattle.sbl_rows.proofs.family_rows.group_pairs.Given as goal

-- the classes so far, and the pairs still to come
abbrev pub invariant-loop-pair : goal.invariant-loop-pair
invariant-loop-pair l = spec.put_pairs (view_stem_classes l.classes.items) (view_pairs (drop l.pair-index l.pairs)) ≡ spec.put_pairs [] (view_pairs l.pairs)
