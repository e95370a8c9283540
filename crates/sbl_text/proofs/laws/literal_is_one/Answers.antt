use Rattle.sbl_text.proofs.Unique.{literal_one}
use Rattle.sbl_text.proofs.laws.literal_is_one.Goals as goal

pub returns : goal.returns
returns c = literal_one
