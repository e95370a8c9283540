use Rattle.std.proofs.Common.{◌≡◌, ◌++◌, drop, false}
use Rattle.sbl_rows.specs.Counting.{firsts}
use Rattle.sbl_rows.specs.Grouping.{view_pairs}
use Rattle.sbl_rows.specs.KnownOutcomes.{has_text}
use Rattle.sbl_rows.proofs.family_rows.push_firsts.Given as goal

-- the first words so far, and those of the pairs still to come
abbrev pub invariant-loop-pair : goal.invariant-loop-pair
invariant-loop-pair l =
    view_pairs l.pairs.items ++ firsts (has_text l.seen) (view_pairs (drop l.pair-index l.family))
    ≡ view_pairs l.initial.pairs.items ++ firsts (λ q. false) (view_pairs l.family)
