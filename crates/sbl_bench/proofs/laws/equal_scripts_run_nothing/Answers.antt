use Rattle.sbl_bench.proofs.Undoing.{equal_read}
use Rattle.sbl_bench.proofs.laws.equal_scripts_run_nothing.Goals as goal

pub returns : goal.returns
returns c = equal_read c.only_items_differ.ensures.alike
