use Rattle.std.proofs.Common.{◌≡◌, [], map}
use Rattle.sbl_rows.specs.Classes.{view_class}
use Rattle.sbl_rows.specs.Grouping.{put_pairs}
use Rattle.sbl_rows.specs.Pairs.{plain}
use Rattle.sbl_rows.proofs.class.classes_among.Given as goal

-- the classes so far, and the pairs still to come
abbrev pub invariant-loop-pair : goal.invariant-loop-pair
invariant-loop-pair l = put_pairs (map view_class l.classes.items) (map plain l.pair-iterator) ≡ put_pairs [] (map plain l.pairs.keys)
