use Rattle.std.proofs.Common.{take}
use Rattle.sbl_rows.specs.Counting.{view_families}
use Rattle.sbl_rows.specs.Families.{any_two, same_stem}
use Rattle.sbl_rows.specs.Grouping.{view_pairs}
use Rattle.sbl_rows.proofs.PairNumbers.{within-at}
use Rattle.sbl_rows.proofs.family_pairs.tally_of.Goals as goal

pub count_family-requires-clause-within : goal.count_family-requires-clause-within
count_family-requires-clause-within c =
    within-at any_two (view_families (take c.loop-family.family-index c.args.families.now)) (view_pairs c.loop-family.tally.words.items) c.loop-family.tally.within c.loop-family.invariant.words c.loop-family.invariant.within

pub count_family-requires-clause-same : goal.count_family-requires-clause-same
count_family-requires-clause-same c =
    within-at same_stem (view_families (take c.loop-family.family-index c.args.families.now)) (view_pairs c.loop-family.tally.words.items) c.loop-family.tally.same c.loop-family.invariant.words c.loop-family.invariant.same
