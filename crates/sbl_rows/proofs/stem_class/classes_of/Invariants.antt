use Rattle.std.proofs.Common.{◌≡◌, map}
use Rattle.sbl_rows.specs.Classes as classes
use Rattle.sbl_rows.specs.Grouping.{put_pairs, plain_pair, view_pairs}
use Rattle.sbl_rows.specs.Classes.{view_stem_classes}
use Rattle.sbl_rows.proofs.stem_class.classes_of.Given as goal

-- the classes so far, and the pairs still to come
abbrev pub invariant-loop-pair : goal.invariant-loop-pair
invariant-loop-pair l = put_pairs (view_stem_classes l.classes.items) (map plain_pair l.pair-iterator) ≡ classes.pair_classes (view_pairs l.pairs)
