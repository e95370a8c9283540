use Rattle.sbl_bench.proofs.Undoing.{limit_undone, script_undone}
use Rattle.sbl_bench.proofs.laws.undo_restores.Goals as goal

pub returns : goal.returns
returns c = record { script = script_undone; limit = limit_undone }
