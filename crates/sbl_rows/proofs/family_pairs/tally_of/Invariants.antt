use Rattle.std.proofs.Common.{◌≡◌, take}
use Rattle.sbl_rows.specs.Counting.{view_families}
use Rattle.sbl_rows.specs.Families.{all_of, any_two, pairs_within, same_stem}
use Rattle.sbl_rows.specs.Grouping.{view_pairs}
use Rattle.sbl_rows.proofs.family_pairs.tally_of.Given as goal

-- what was counted in the families so far
abbrev pub invariant-loop-family : goal.invariant-loop-family
invariant-loop-family l = record {
  words : view_pairs l.tally.words.items ≡ all_of (view_families (take l.family-index l.families));
  within : l.tally.within ≡ pairs_within any_two (view_families (take l.family-index l.families));
  same : l.tally.same ≡ pairs_within same_stem (view_families (take l.family-index l.families));
}
