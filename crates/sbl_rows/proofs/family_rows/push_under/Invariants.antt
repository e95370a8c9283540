use Rattle.std.proofs.Common.{◌≡◌, ◌++◌, drop}
use Rattle.std.specs.List.{filter_map}
use Rattle.sbl_rows.specs.Counting.{view_families}
use Rattle.sbl_rows.specs.Families as spec
use Rattle.sbl_rows.specs.Families.{view_results}
use Rattle.sbl_rows.proofs.family_rows.push_under.Given as goal

-- the rows so far, and those of the families still to come
abbrev pub invariant-loop-family : goal.invariant-loop-family
invariant-loop-family l =
    view_results l.rows.items ++ filter_map spec.under (view_families (drop l.family-index l.families))
    ≡ view_results l.initial.rows.items ++ filter_map spec.under (view_families l.families)
