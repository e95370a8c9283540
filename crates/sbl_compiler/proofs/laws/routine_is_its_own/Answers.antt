use Rattle.sbl_compiler.proofs.Own.{routine_is_its_own}
use Rattle.sbl_compiler.proofs.laws.routine_is_its_own.Goals as goal

pub returns : goal.returns
returns c = routine_is_its_own
