use Rattle.std.proofs.Common.{◌≡◌, [], map, drop}
use Rattle.sbl_rows.specs.Grouping.{plain_pair, view_pairs}
use Rattle.sbl_rows.proofs.OrderFacts.{put_in}
use Rattle.sbl_rows.proofs.stem_class.sorted_pairs.Given as goal

-- the pairs so far, and those still to come
abbrev pub invariant-loop-pair : goal.invariant-loop-pair
invariant-loop-pair l = put_in (map plain_pair l.set.keys) (view_pairs (drop l.pair-index l.pairs)) ≡ put_in [] (view_pairs l.pairs)
