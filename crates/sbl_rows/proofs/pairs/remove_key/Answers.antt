use Rattle.sbl_rows.proofs.Exchanges.{key_removed}
use Rattle.sbl_rows.proofs.pairs.remove_key.Goals as goal

pub returns : goal.returns
returns c = λ q. key_removed c.args.stem c.args.word _ _ c.remove.ensures.updates q
