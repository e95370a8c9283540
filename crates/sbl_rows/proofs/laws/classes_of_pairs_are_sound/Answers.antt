use Rattle.sbl_rows.proofs.ClassLaws.{classes_are_of_pairs, classes_of_pairs_rise}
use Rattle.sbl_rows.proofs.laws.classes_of_pairs_are_sound.Goals as goal

pub returns : goal.returns
returns c = record { rise = classes_of_pairs_rise; of_pairs = classes_are_of_pairs }
