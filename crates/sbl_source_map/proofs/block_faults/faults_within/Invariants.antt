use Rattle.std.proofs.Common.{◌≡◌, ◌++◌, drop}
use Rattle.std.specs.Prelude.{filter_map}
use Rattle.sbl_source_map.specs.BlockFaults.{fault_within}
use Rattle.sbl_source_map.proofs.block_faults.faults_within.Given as goal

abbrev pub invariant-loop-placed : goal.invariant-loop-placed
invariant-loop-placed l =
    l.faults.items ++ filter_map (fault_within l.begin l.end) (drop l.placed-index l.all) ≡ filter_map (fault_within l.begin l.end) l.all
