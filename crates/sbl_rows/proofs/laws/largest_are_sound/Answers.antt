use Rattle.sbl_rows.proofs.LargestLaws.{largest_are_first}
use Rattle.sbl_rows.proofs.laws.largest_are_sound.Goals as goal

pub returns : goal.returns
returns c = largest_are_first
