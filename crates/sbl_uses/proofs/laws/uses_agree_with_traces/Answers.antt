use Rattle.std.proofs.Common.{sym}
use Rattle.sbl_uses.proofs.Unions.{met_one}
use Rattle.sbl_uses.proofs.laws.uses_agree_with_traces.Goals as goal

pub returns : goal.returns
returns c = λ s word x. sym (met_one s x word)
