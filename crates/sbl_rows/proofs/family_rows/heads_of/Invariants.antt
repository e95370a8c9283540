use Rattle.std.proofs.Common.{◌≡◌, ◌++◌, drop}
use Rattle.sbl_rows.specs.Counting.{heads, view_families}
use Rattle.sbl_rows.specs.Grouping.{view_pairs}
use Rattle.sbl_rows.proofs.family_rows.heads_of.Given as goal

-- the first words so far, and those of the families still to come
abbrev pub invariant-loop-family : goal.invariant-loop-family
invariant-loop-family l = view_pairs l.pairs.items ++ heads (view_families (drop l.family-index l.families)) ≡ heads (view_families l.families)
