use Rattle.std.proofs.Common.{arith}
use Rattle.indexmap.specs.Entry.{entry_index}
use Rattle.sbl_bench.proofs.open.leave.Goals as goal

pub swap_indices-requires : goal.swap_indices-requires
unfolding entry_index
swap_indices-requires c = grind (arith, c.index-index.ensures, c.args.entry.within)
