use Rattle.std.proofs.Common.{◌∙◌}
use Rattle.sbl_program.proofs.Mirror.{ends_with-mirror}
use Rattle.sbl_program.proofs.plain.is_prefix.Goals as goal

pub returns-in-Backward : goal.returns-in-Backward
returns-in-Backward c = rw c.in-Backward.is (c.ends_with.ensures.value ∙ ends_with-mirror c.args.part.now c.args.string.now)
