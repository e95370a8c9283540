use Rattle.std.proofs.Common.{◌≡◌, drop, map, Ok}
use Rattle.sbl_program.specs.ProgramOf.{view_next_product, view_next_factor}
use Rattle.sbl_program.specs.Rows.{scales_to, sums_to}
use Rattle.sbl_run_state.proofs.state.State.+value.Given as goal

-- the numbers that are left give from here what all of them give from the start
abbrev pub invariant-sum-loop-other : goal.invariant-sum-loop-other
invariant-sum-loop-other l = sums_to (map view_next_product (drop l.other-index l.others)) (Ok l.total) l.mode l.self ≡ sums_to (map view_next_product l.others) (Ok l.start) l.mode l.self

abbrev pub invariant-product-loop-other : goal.invariant-product-loop-other
invariant-product-loop-other l = scales_to (map view_next_factor (drop l.other-index l.others)) (Ok l.total) l.mode l.self ≡ scales_to (map view_next_factor l.others) (Ok l.start) l.mode l.self
