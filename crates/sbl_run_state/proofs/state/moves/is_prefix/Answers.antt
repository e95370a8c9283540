use Rattle.std.proofs.Common.{◌∙◌}
use Rattle.sbl_program.proofs.Mirror.{ends_with-mirror}
use Rattle.sbl_run_state.proofs.state.moves.is_prefix.Goals as goal

pub returns-in-Backward-clause-value : goal.returns-in-Backward-clause-value
returns-in-Backward-clause-value c = rw c.in-Backward.is (c.ends_with.ensures.value ∙ ends_with-mirror c.args.part.now c.args.string.now)
