use Rattle.std.proofs.Common.{◌≡◌, ◌++◌, map, drop}
use Rattle.sbl_source_map.proofs.RangesOf.{by_ranges}
use Rattle.sbl_source_map.proofs.fault_lists.with_ranges.Given as goal

abbrev pub invariant-loop-fault : goal.invariant-loop-fault
invariant-loop-fault l = l.placed.items ++ map (by_ranges l.ranges) (drop l.fault-index l.faults) ≡ map (by_ranges l.ranges) l.faults
